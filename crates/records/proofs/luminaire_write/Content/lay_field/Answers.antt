-- `records::luminaire_write::Content::lay_field` meets its contract: a number is one stage, and a text has its own.
-- Assumes nothing.
use Rattle.std.proofs.Common.{sym, ◌∙◌, ◌-◌, ◌≤◌, take, drop, arith}
use Rattle.records.proofs.Table.{within_bank, narrow}
use Rattle.records.proofs.Stages.{NumberLaid, number_laid}
use Rattle.records.proofs.luminaire_write.Content.lay_field.Goals as goal
use Rattle.records.proofs.luminaire_write.Content.lay_field.Goals.{After-to_be_bytes-wide}

few : (c : After-to_be_bytes-wide) → c.args.row.field.len ≤ 4
few c =
    let r = c.args.row in
    narrow r.field.kind c.in-Number.is (within_bank r.index r.in_table).if_number

-- the bytes that are laid are the number's
laid : (c : After-to_be_bytes-wide) → (let a = c.args in let s = a.self.now in let n = a.row.field.len in
    NumberLaid s.numbers s.text_field s.text.now a.row.index a.row.field (take (4 - (4 - n)) (drop (4 - n) c.to_be_bytes-wide.result)))
laid c =
    let s = c.args.self.now in
    let r = c.args.row in
    number_laid s.numbers s.text_field s.text.now r.index r.field c.in-Number.is (sym c.of_field.ensures ∙ c.in-Some.is) (few c) c.to_be_bytes-wide.ensures

pub overflow_sub-bytes : goal.overflow_sub-bytes
overflow_sub-bytes c = few (goal.at.overflow_sub-bytes c).After-to_be_bytes-wide

pub lay_stage-requires : goal.lay_stage-requires
lay_stage-requires c =
    let own = laid (goal.at.lay_stage-requires c).After-to_be_bytes-wide in
    record { in_bank = omega (arith, own.count, (within_bank c.args.row.index c.args.row.in_table).ends); room = omega (arith, own, c.requires) }

pub set_text-requires : goal.set_text-requires
set_text-requires c = (within_bank c.args.row.index c.args.row.in_table).few

pub returns-in-Some : goal.returns-in-Some
returns-in-Some c =
    let own = laid (goal.at.returns-in-Some c).After-to_be_bytes-wide in
    record { behind = omega (arith, own, c.lay_stage.ensures.behind); laid = rw (← own.stores) c.lay_stage.ensures.laid }
