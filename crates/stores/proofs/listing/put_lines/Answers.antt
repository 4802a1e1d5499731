-- `stores::listing::put_lines` meets its contract: behind the last turn one of the two lists has nothing left.
-- Assumes nothing.
use mathlib.Core.Logic.{inl, inr}
use mathlib.Core.Path.{◌≡◌, refl, sym, ap, ◌∙◌}
use mathlib.Core.List.{List, [], ◌++◌, append-nil, append_assoc}
use Prim.Native.Nat.{ℕ}
use native.Mathlib.Omega.{arith}
use lib.ListN.{length, length-append}
use Rattle.stores.specs.Listing.{line}
use Rattle.stores.specs.Steps.{lines}
use Rattle.stores.proofs.Lines.{joined, no_lines}
use Rattle.stores.proofs.listing.put_lines.Goals as goal
use Rattle.stores.proofs.listing.put_lines.Goals.{In-None}

pub loop-offset-preserved : goal.loop-offset-preserved
loop-offset-preserved c =
    let text = c.loop-offset.text in
    let before = c.loop-offset.offset-iterator in
    let left = c.next.new.self in
    let step = c.in-Some.ensures.steps in
    let first = line c.in-Some.offset.now c.in-Some.value.now in
    let more : lines before.a.rest.now before.b.rest.now ≡ first ++ lines left.a.rest.now left.b.rest.now = rw (step.0, step.1) refl in
    let put : c.fill_up.new.self ≡ text ++ first =
    joined text c.line_of.result c.fill_up.ensures (omega (arith, c.loop-offset.invariant.room, ap length step.0, ap length c.line_of.ensures))
    ∙ ap (λ (l : List ℕ). text ++ l) c.line_of.ensures
    in
    record {
      same =
          ap (λ (l : List ℕ). l ++ lines left.a.rest.now left.b.rest.now) put
          ∙ append_assoc text first (lines left.a.rest.now left.b.rest.now)
          ∙ ap (λ (l : List ℕ). text ++ l) (sym more)
          ∙ c.loop-offset.invariant.same;
      room = omega (arith, ap length put, length-append text first, c.loop-offset.invariant.room, ap length step.0);
    }

-- no line is left
none_left : (c : In-None) → (let left = c.loop-offset.offset-iterator in lines left.a.rest.now left.b.rest.now ≡ [])
none_left c =
    let left = c.loop-offset.offset-iterator in
    no_lines left.a.rest.now left.b.rest.now (elim c.in-None.ensures.steps [ inl w ↦ inl w.1.0 | inr w ↦ inr w.1.0 ])

pub returns : goal.returns
returns c = sym (append-nil _) ∙ (rw (none_left c) at c.loop-offset.invariant.same)
