-- `bank::call_list::run` meets its contract. The invariant: with the calls that are left, the run ends as it does with all.
-- Assumes nothing.
use Rattle.std.proofs.Common.{drop}
use Rattle.bank.specs.Calls.{state_of, calls_in}
use Rattle.bank.proofs.Running.{Ran}
use Rattle.bank.proofs.call_list.run.Given as goal

abbrev pub invariant-loop-i : goal.invariant-loop-i
invariant-loop-i l =
    Ran (state_of l.fn.out l.fn.buffer) (calls_in l.calls) l.fn.answers (state_of l.now l.buffer) l.answers l.i (calls_in (drop l.i l.calls))
