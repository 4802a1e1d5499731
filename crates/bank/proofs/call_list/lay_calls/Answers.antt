-- `bank::call_list::lay_calls` meets its contract, by its invariant.
-- Assumes nothing.
use Rattle.std.proofs.Common.{refl, ap, ◌∙◌, ◌∷◌, List, ℕ, arith}
use Rattle.bus.proofs.Lists.{no_elements}
use Rattle.bank.specs.Calls.{calls_told}
use Rattle.bank.proofs.Telling.{call_read, all_read}
use Rattle.bank.proofs.call_list.lay_calls.Goals as goal

pub loop-budget-preserved : goal.loop-budget-preserved
loop-budget-preserved c =
    let l = c.loop-budget in
    let two = c.in-Some.ensures.cases.0 ∙ ap (λ (xs : List ℕ). c.in-Some.budget.now ∷ xs) c.in-Some-split_first.ensures.cases.0 in
    call_read l.invariant c.call_told.result.0 two (omega (arith, c.if-calls-count.false)) c.call_told.ensures.call c.call_told.ensures.behind refl

pub returns-in_default-split_first-clause-laid : goal.returns-in_default-split_first-clause-laid
unfolding calls_told
returns-in_default-split_first-clause-laid c =
    let one = c.in-Some.ensures.cases.0 ∙ ap (λ (xs : List ℕ). c.in-Some.budget.now ∷ xs) (no_elements c.in-Some.behind.now c.in_default-split_first.ensures.cases) in
    all_read c.loop-budget.invariant (ap (λ (xs : List ℕ). calls_told xs c.loop-budget.bytes.now) one)

pub returns-in_default-clause-laid : goal.returns-in_default-clause-laid
unfolding calls_told
returns-in_default-clause-laid c =
    all_read c.loop-budget.invariant (ap (λ (xs : List ℕ). calls_told xs c.loop-budget.bytes.now) (no_elements c.loop-budget.left.now c.in_default.ensures.cases))
