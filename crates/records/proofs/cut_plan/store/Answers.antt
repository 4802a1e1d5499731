-- `records::cut_plan::store` meets its contract: behind the last turn the cut takes in no store more.
-- Assumes nothing.
use Rattle.std.specs.Prelude.{List, [], ◌∷◌, ℕ, zero, suc, ◌<◌, length}
use Rattle.std.proofs.lemmas.Result.{err_from_is_err_and}
use Rattle.std.proofs.Common.{◌≡◌, sym, ◌∙◌, refl, ap, take, None, length-take, arith, add-one}
use Rattle.records.specs.Writes.{Store}
use Rattle.bank.specs.Refusal.{first_of}
use Rattle.records.specs.Plan.{plan_checks, stores_of}
use Rattle.records.specs.Cut.{cut_bank}
use Rattle.records.proofs.Counting.{at_most_80}
use Rattle.records.proofs.Beforehand.{count_accepted, count_refused}
use Rattle.records.proofs.cut_plan.store.Goals as goal
use Rattle.records.proofs.cut_plan.store.Goals.{In_ok-count}

none_left : (ss : List Store) (k : ℕ) (bank : List ℕ) → (0 < k → length ss ≡ 0) → cut_bank ss k bank ≡ bank
none_left ss zero bank e = refl
none_left [] (suc k) bank e = refl
none_left (s ∷ ss) (suc k) bank e = let z : ⊥ = omega (arith, e (omega arith)) in absurd z

pub loop-store-preserved : goal.loop-store-preserved
loop-store-preserved c =
    let step = c.in-Some.ensures.steps in
    rw (c.put.ensures) (rw (step.0, ← step.1, add-one) at c.loop-store.invariant)

-- no check of the plan applies, and so many stores there are
told : (c : In_ok-count) → (first_of (plan_checks c.args.plan c.args.text.now) ≡ None) × (c.in_ok-count.count ≡ length (stores_of c.args.plan c.args.text.now))
told c = count_accepted c.args.plan c.args.text.now (sym c.count.ensures ∙ c.in_ok-count.was)

pub returns-in_err-count : goal.returns-in_err-count
returns-in_err-count c =
    let p = err_from_is_err_and c.from_residual.result c.from_residual.ensures.1 in
    let refused = count_refused c.args.plan c.args.text.now (sym c.count.ensures ∙ c.in_err-count.was) in
    record { answer = rw (p.1, p.2, refused); stored = rw refused }

pub lay-requires : goal.lay-requires
lay-requires c = omega (arith, at_most_80 c.args.plan c.args.text.now (told (goal.at.lay-requires c).In_ok-count).0)

pub slice_bounds-iter-end : goal.slice_bounds-iter-end
slice_bounds-iter-end c =
    let a = c.args in
    let t = told (goal.at.slice_bounds-iter-end c).In_ok-count in
    simp length-take (omega (arith, t.1, at_most_80 a.plan a.text.now t.0, c.lay.auto.stores))

pub slice_bounds-stores-end : goal.slice_bounds-stores-end
slice_bounds-stores-end c =
    let a = c.args in
    let t = told (goal.at.slice_bounds-stores-end c).In_ok-count in
    omega (arith, t.1, at_most_80 a.plan a.text.now t.0, c.lay.auto.stores)

pub returns : goal.returns
returns c =
    let a = c.args in
    let t = told (goal.at.returns c).In_ok-count in
    let left = c.loop-store.store-iterator in
    let ended = none_left left.iter.rest.now left.n c.loop-store.bank (λ some. (c.in-None.ensures.steps some).0) in
    let first = ap (λ (n : ℕ). take n c.lay.new.stores) t.1 ∙ c.lay.ensures in
    record {
      answer = rw t.0;
      stored =
          sym ended ∙ c.loop-store.invariant
          ∙ rw (c.into_iter-store-iterator.ensures.into_iter_gives, c.take-store-items.ensures.source, c.take-store-items.ensures.count, c.iter.ensures.rest, first, t.0);
    }
