-- `records::luminaire_write::lay_stage` meets its contract. The invariant: the stores of the bytes before an index are
-- laid.
-- Assumes nothing.
use Rattle.std.proofs.Common.{◌≡◌, take}
use Rattle.std.proofs.lemmas.List.Edits.{sets}
use Rattle.records.specs.Writes.{single_bytes}
use Rattle.records.proofs.luminaire_write.lay_stage.Given as goal

abbrev pub invariant-loop-i : goal.invariant-loop-i
invariant-loop-i l = l.stores ≡ sets l.initial.stores l.from (single_bytes l.offset (take l.i l.bytes))
