-- `records::memory_bank_parser::push_next` meets its contract: the sequence is a part of the bytes.
-- Assumes nothing.
use mathlib.Core.Path.{sym}
use lib.Seq.{length-take-le}
use Rattle.records.proofs.Sequences.{part_of}
use Rattle.records.proofs.memory_bank_parser.push_next.Goals as goal

pub slice_bounds-push-end-else-taken-eq1 : goal.slice_bounds-push-end-else-taken-eq1
slice_bounds-push-end-else-taken-eq1 c = sym (length-take-le _ _ (part_of c.args.rest.now (sym c.in-Some.ensures)).1)
