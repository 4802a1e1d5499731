-- `records::luminaire_write::Content::set_bytes` meets its contract: no field of the table has more bytes than there is
-- room for.
-- Assumes nothing.
use Rattle.records.proofs.Table.{within_bank, narrow}
use Rattle.records.proofs.luminaire_write.Content.set_bytes.Goals as goal

pub set_number-requires : goal.set_number-requires
set_number-requires c =
    let r = c.args.row in
    narrow r.field.kind c.in-Number.is (within_bank r.index r.in_table).if_number

pub set_text-requires : goal.set_text-requires
set_text-requires c = (within_bank c.args.row.index c.args.row.in_table).few
