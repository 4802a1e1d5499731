-- `records::memory_bank_parser::escape_into` meets its contract. The invariant: the text is laid up to what is left of it.
-- Assumes nothing.
use lib.ListN.{length}
use Rattle.records.proofs.Texts.{Laid}
use Rattle.records.proofs.memory_bank_parser.escape_into.Given as goal

abbrev pub invariant-loop-pushed : goal.invariant-loop-pushed
invariant-loop-pushed l = Laid l.raw l.initial.out l.out l.room l.len l.rest

abbrev pub decreases-loop-pushed : goal.decreases-loop-pushed
decreases-loop-pushed l = length l.rest
