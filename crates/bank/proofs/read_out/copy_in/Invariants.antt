-- `bank::read_out::copy_in` meets its contract. The invariant: the first i bytes of the chunk are stored.
-- Assumes nothing.
use Rattle.std.proofs.Common.{◌≡◌, length}
use lib.Seq.{paste}
use Rattle.bank.proofs.read_out.copy_in.Given as goal

abbrev pub invariant-loop-i : goal.invariant-loop-i
invariant-loop-i l = (l.buffer ≡ paste l.fn.buffer l.fn.at l.chunk l.i) × (length l.buffer ≡ length l.fn.buffer)
