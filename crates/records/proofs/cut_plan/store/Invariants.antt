-- `records::cut_plan::store` meets its contract. The invariant: with the stores that are left, the bank ends as it does with
-- all.
-- Assumes nothing.
use Rattle.std.proofs.Common.{◌≡◌}
use Rattle.records.specs.Cut.{cut_bank}
use Rattle.records.proofs.cut_plan.store.Given as goal

abbrev pub invariant-loop-store : goal.invariant-loop-store
invariant-loop-store l =
    cut_bank l.store-iterator.iter.rest.now l.store-iterator.n l.bank
    ≡ cut_bank l.initial.store-iterator.iter.rest.now l.initial.store-iterator.n l.initial.bank
