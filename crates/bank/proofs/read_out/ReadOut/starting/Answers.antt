-- `bank::read_out::ReadOut::starting` meets its contract, by what it tests.
-- Assumes nothing.
use Rattle.std.proofs.Common.{sym}
use Rattle.bank.proofs.Reading.{every_read_out_started_exactly}
use Rattle.bank.proofs.read_out.ReadOut.starting.Goals as goal

pub returns-then-length-gt256 : goal.returns-then-length-gt256
returns-then-length-gt256 c = let a = c.args in sym ((every_read_out_started_exactly a.bank a.length a.mode).refused c.if-length-gt256.true)

pub returns : goal.returns
returns c = let a = c.args in sym ((every_read_out_started_exactly a.bank a.length a.mode).accepted c.if-length-gt256.false)
