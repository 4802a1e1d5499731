-- `records::luminaire_write::stages_of` meets its contract: the offsets of a field of the table are bytes.
-- Assumes nothing.
use native.Mathlib.Omega.{arith}
use Rattle.records.proofs.Table.{within_bank}
use Rattle.records.proofs.luminaire_write.stages_of.Goals as goal

pub overflow_add-row : goal.overflow_add-row
overflow_add-row c = omega (arith, (within_bank c.args.row.index c.args.row.in_table).starts)
