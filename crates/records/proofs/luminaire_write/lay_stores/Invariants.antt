-- `records::luminaire_write::lay_stores` meets its contract. The invariant: the stores before an index are laid.
-- Assumes nothing.
use Rattle.std.proofs.Common.{◌≡◌, ◌++◌, take, drop}
use Rattle.records.specs.Writes.{offsets_of, values_of}
use Rattle.records.proofs.luminaire_write.lay_stores.Given as goal

abbrev pub invariant-loop-i : goal.invariant-loop-i
invariant-loop-i l =
    record {
      offsets : l.offsets ≡ take l.i (offsets_of l.stores) ++ drop l.i l.initial.offsets;
      values : l.values ≡ take l.i (values_of l.stores) ++ drop l.i l.initial.values;
    }
