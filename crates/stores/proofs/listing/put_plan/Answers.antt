-- `stores::listing::put_plan` meets its contract: no plan has more stores than there is room for, so that its answer is its
-- first refusal, or the lines of its stores.
-- Assumes nothing.
use mathlib.Core.Path.{sym, ap, ◌∙◌}
use mathlib.Core.List.{List, ◌++◌}
use Prim.Native.Nat.{ℕ}
use native.Mathlib.Omega.{arith}
use lib.Dec.{lit≤}
use lib.ListN.{length, take, length-append}
use lib.Seq.{length-take-le}
use Rattle.records.proofs.Room.{AcceptedPlan, told_accepted, told_refused, accepted_few, offsets_fit, values_fit}
use Rattle.stores.specs.Listing.{counted, stores_word, refused_word}
use Rattle.stores.specs.Steps.{lines}
use Rattle.stores.proofs.Lines.{decimal_short, counted_length}
use Rattle.stores.proofs.Answers.{refused_text_lem, accepted_text}
use Rattle.stores.proofs.listing.put_plan.Goals as goal
use Rattle.stores.proofs.listing.put_plan.Goals.{In-Ok}

-- what is known where the plan is accepted
accepted : (c : In-Ok) → (let a = c.args in AcceptedPlan a.plan a.text.now c.in-Ok.count c.stores.new.offsets c.stores.new.values)
accepted c =
    let a = c.args in
    told_accepted a.plan a.text.now _ _ (lit≤ tt) (lit≤ tt) c.stores.ensures.count c.stores.ensures.offsets c.stores.ensures.values c.in-Ok.is

pub put_counted-requires : goal.put_counted-requires
put_counted-requires c = (
  omega (arith, accepted_few (accepted (goal.at.put_counted-requires c).In-Ok)),
  omega (arith, ap length c.requires),
)

pub slice_bounds-offsets-end : goal.slice_bounds-offsets-end
slice_bounds-offsets-end c = offsets_fit (accepted (goal.at.slice_bounds-offsets-end c).In-Ok)

pub slice_bounds-put_lines-end : goal.slice_bounds-put_lines-end
slice_bounds-put_lines-end c = sym (length-take-le _ _ (offsets_fit (accepted (goal.at.slice_bounds-put_lines-end c).In-Ok)))

pub slice_bounds-values-end : goal.slice_bounds-values-end
slice_bounds-values-end c = values_fit (accepted (goal.at.slice_bounds-values-end c).In-Ok)

pub slice_bounds-put_lines-end-in-Ok : goal.slice_bounds-put_lines-end-in-Ok
slice_bounds-put_lines-end-in-Ok c = sym (length-take-le _ _ (values_fit (accepted (goal.at.slice_bounds-put_lines-end-in-Ok c).In-Ok)))

pub put_lines-requires : goal.put_lines-requires
put_lines-requires c =
    let a = accepted (goal.at.put_lines-requires c).In-Ok in
    let n = c.in-Ok.count in
    omega (
      arith,
      accepted_few a,
      ap length c.put_counted.ensures,
      ap length c.requires,
      length-append c.args.listing.now (counted stores_word n),
      counted_length stores_word n,
      decimal_short n,
      length-take-le n c.stores.new.offsets (offsets_fit a),
    )

pub returns-in-Ok : goal.returns-in-Ok
returns-in-Ok c =
    let n = c.in-Ok.count in
    let rest = lines (take n c.stores.new.offsets) (take n c.stores.new.values) in
    c.put_lines.ensures
    ∙ ap (λ (l : List ℕ). l ++ rest) (c.put_counted.ensures ∙ ap (λ (l : List ℕ). l ++ counted stores_word n) c.requires)
    ∙ accepted_text (accepted (goal.at.returns-in-Ok c).In-Ok)

pub returns-in-Err : goal.returns-in-Err
returns-in-Err c =
    let a = c.args in
    c.put_counted-in-Err.ensures
    ∙ ap (λ (l : List ℕ). l ++ counted refused_word c.number.result) c.requires
    ∙ ap (counted refused_word) c.number.ensures
    ∙ sym (refused_text_lem a.plan a.text.now (told_refused a.plan a.text.now _ _ (lit≤ tt) (lit≤ tt) c.stores.ensures.count c.in-Err.is))
