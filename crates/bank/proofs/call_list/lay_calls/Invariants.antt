-- `bank::call_list::lay_calls` meets its contract. The invariant: what is laid, with what is left to read, makes all calls.
-- Assumes nothing.
use Rattle.std.proofs.Common.{length}
use Rattle.bank.proofs.Telling.{Reads}
use Rattle.bank.proofs.call_list.lay_calls.Given as goal

abbrev pub invariant-loop-budget : goal.invariant-loop-budget
invariant-loop-budget l = Reads l.fn.numbers l.fn.chunks l.fn.calls l.calls l.count l.left l.bytes

abbrev pub decreases-loop-budget : goal.decreases-loop-budget
decreases-loop-budget l = length l.left
