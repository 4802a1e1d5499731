-- `bank::read_out::chunk_count` meets its contract. The invariant: those counted and those from the next offset on are all. The
-- measure is what remains of the length.
-- Assumes nothing.
use Rattle.std.proofs.Common.{◌-◌}
use Rattle.bank.proofs.Counting.{CountedTo}
use Rattle.bank.proofs.read_out.chunk_count.Given as goal

abbrev pub invariant-loop-next : goal.invariant-loop-next
invariant-loop-next l = CountedTo l.bank l.length l.mode l.budget l.next l.count

abbrev pub decreases-loop-next : goal.decreases-loop-next
decreases-loop-next l = l.length - l.next
