-- `records::luminaire_write::lay_stage` meets its contract, by its invariant.
-- Assumes nothing.
use Rattle.std.proofs.Common.{◌≡◌, ◌∙◌, length, take, arith}
use lib.Seq.{length-take-le}
use Rattle.records.specs.Writes.{single_bytes}
use Rattle.records.proofs.Laying.{sets_append}
use Rattle.records.proofs.Stages.{single_count}
use Rattle.records.proofs.Stores.{single_next}
use Rattle.records.proofs.luminaire_write.lay_stage.Goals as goal

pub loop-i-preserved : goal.loop-i-preserved
loop-i-preserved c =
    let a = c.args in
    let i = c.loop-i.i in
    let before = single_bytes a.offset (take i a.bytes.now) in
    let count : length before ≡ i = single_count a.offset (take i a.bytes.now) ∙ length-take-le i a.bytes.now (omega arith) in
    rw (c.loop-i.invariant, single_next a.offset a.bytes.now i c.loop-i-test.true, sets_append a.stores.now a.from before, count)
