-- `records::output::put_all` meets its contract: as many bytes are copied as the slice has room for.
-- Assumes nothing.
use Rattle.std.proofs.Common.{sym, arith}
use Rattle.records.proofs.Laying.{sets_behind}
use Rattle.records.proofs.Copies.{part_stored}
use Rattle.records.proofs.output.put_all.Goals as goal

pub returns-then-out-at : goal.returns-then-out-at
returns-then-out-at c =
    let a = c.args in
    sym (sets_behind a.out.now a.at a.bytes.now c.if-out-at.true)

pub returns : goal.returns
returns c =
    let a = c.args in
    part_stored a.out.now a.at a.bytes.now c.min-n.ensures c.copy_from_slice.ensures.after (omega (arith, c.if-out-at.false))
