-- `records::luminaire_write::lay_write` meets its contract: its stages stand in the bank, and there is room for them.
-- Assumes nothing.
use Rattle.std.proofs.Common.{◌≡◌, sym, ap, ◌∙◌, ◌-◌, true, length, take, drop, length-take, length-drop, take_all, arith}
use lib.Seq.{length-sets}
use Rattle.records.specs.Writes.{is_staged}
use Rattle.records.proofs.Table.{within_bank}
use Rattle.records.proofs.Stages.{staged_count, other_count, staged_laid}
use Rattle.records.proofs.luminaire_write.lay_write.Goals as goal
use Rattle.records.proofs.luminaire_write.lay_write.Goals.{After-lay_stage-tailed}

staged : (c : After-lay_stage-tailed) → is_staged c.args.row.field.kind (length c.args.bytes.now) ≡ true
staged c = sym c.is_staged.ensures ∙ c.if-not-is_staged.false

-- behind the first byte are all others
tail_is : (c : After-lay_stage-tailed) → take (length c.args.bytes.now - 1) (drop 1 c.args.bytes.now) ≡ drop 1 c.args.bytes.now
tail_is c = take_all (length c.args.bytes.now - 1) (drop 1 c.args.bytes.now) (rw length-drop (omega arith))

pub lay_stage-requires-clause-in_bank : goal.lay_stage-requires-clause-in_bank
lay_stage-requires-clause-in_bank c = omega (arith, c.requires.fits, (within_bank c.args.row.index c.args.row.in_table).ends)

pub lay_stage-requires-clause-room : goal.lay_stage-requires-clause-room
lay_stage-requires-clause-room c =
    let r = c.args.row in
    omega (arith, c.requires.room, other_count r.index r.field c.args.bytes.now (sym c.is_staged.ensures ∙ c.if-not-is_staged.true))

pub returns-then-not-is_staged-clause-behind : goal.returns-then-not-is_staged-clause-behind
returns-then-not-is_staged-clause-behind c =
    let r = c.args.row in
    omega (arith, c.lay_stage.ensures.behind, other_count r.index r.field c.args.bytes.now (sym c.is_staged.ensures ∙ c.if-not-is_staged.true))

pub overflow_add-start : goal.overflow_add-start
overflow_add-start c = omega (arith, (within_bank c.args.row.index c.args.row.in_table).starts)

pub lay_stage-tailed-requires-clause-in_bank : goal.lay_stage-tailed-requires-clause-in_bank
lay_stage-tailed-requires-clause-in_bank c =
    simp (length-take, length-drop) (omega (arith, c.requires.fits, (within_bank c.args.row.index c.args.row.in_table).ends))

pub lay_stage-tailed-requires-clause-room : goal.lay_stage-tailed-requires-clause-room
lay_stage-tailed-requires-clause-room c =
    let r = c.args.row in
    let count = staged_count r.index r.field c.args.bytes.now (sym c.is_staged.ensures ∙ c.if-not-is_staged.false) in
    rw c.lay_stage-emptied.ensures.laid (simp (length-sets, length-take, length-drop) (omega (arith, c.requires.room, count, c.lay_stage-emptied.ensures.behind)))

pub lay_stage-requires-2-clause-room : goal.lay_stage-requires-2-clause-room
lay_stage-requires-2-clause-room c =
    let at = (goal.at.lay_stage-requires-2-clause-room c).After-lay_stage-tailed in
    let r = c.args.row in
    let count = staged_count r.index r.field c.args.bytes.now (staged at) in
    rw (c.lay_stage-tailed.ensures.laid, c.lay_stage-emptied.ensures.laid)
    (simp (length-sets, length-take) (omega (arith, c.requires.room, count, c.lay_stage-emptied.ensures.behind, c.lay_stage-tailed.ensures.behind, ap length (tail_is at), length-drop 1 c.args.bytes.now)))

pub returns-clause-behind : goal.returns-clause-behind
returns-clause-behind c =
    let at = (goal.at.returns-clause-behind c).After-lay_stage-tailed in
    let r = c.args.row in
    let count = staged_count r.index r.field c.args.bytes.now (staged at) in
    omega (arith, count, c.lay_stage-2.ensures.behind, c.lay_stage-emptied.ensures.behind, c.lay_stage-tailed.ensures.behind, ap length (tail_is at), length-drop 1 c.args.bytes.now, length-take 1 c.args.bytes.now)

pub returns-clause-laid : goal.returns-clause-laid
returns-clause-laid c =
    let at = (goal.at.returns-clause-laid c).After-lay_stage-tailed in
    let r = c.args.row in
    let bytes = c.args.bytes.now in
    c.lay_stage-2.ensures.laid
    ∙ rw (c.lay_stage-tailed.ensures.laid, c.lay_stage-emptied.ensures.laid, c.lay_stage-tailed.ensures.behind, c.lay_stage-emptied.ensures.behind, tail_is at)
    (sym (staged_laid r.index r.field bytes (staged at) c.args.stores.now c.args.from))
