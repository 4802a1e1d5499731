-- `bank::luminaire_write::all_printable` meets its contract. The invariant: what was told so far, with what is left, makes the answer.
-- Assumes nothing.
use Rattle.std.proofs.Common.{◌≡◌, drop}
use Rattle.std.specs.Prelude.{◌&&◌}
use Rattle.bank.specs.Fields.{printable}
use Rattle.bank.proofs.luminaire_write.all_printable.Given as goal

abbrev pub invariant-loop-byte : goal.invariant-loop-byte
invariant-loop-byte l = (l.all && printable (drop l.byte-index l.text)) ≡ printable l.text
