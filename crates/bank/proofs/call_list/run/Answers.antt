-- `bank::call_list::run` meets its contract, by its invariant.
-- Assumes nothing.
use Rattle.std.proofs.Common.{ap}
use lib.ListN.{drop_of_length-le}
use Rattle.bus.proofs.Lists.{left_at}
use Rattle.bank.specs.Calls.{calls_in}
use Rattle.bank.proofs.Running.{call_made, all_stored}
use Rattle.bank.proofs.call_list.run.Goals as goal

pub loop-i-preserved : goal.loop-i-preserved
loop-i-preserved c =
    let l = c.loop-i in
    let made = c.make_call-now.ensures in
    call_made l.invariant (ap calls_in (left_at c.args.calls.now l.i _ c.loop-i-test.true)) made.next made.stored made.answered

pub returns-clause-answered : goal.returns-clause-answered
returns-clause-answered c = all_stored c.loop-i.invariant (ap calls_in (drop_of_length-le c.args.calls.now {i = c.loop-i.i} c.loop-i-test.false))
