-- `records::luminaire_write::lay_stores` meets its contract, by its invariant.
-- Assumes nothing.
use Rattle.records.specs.Writes.{Store}
use Rattle.records.proofs.Stores.{member_next}
use Rattle.records.proofs.luminaire_write.lay_stores.Goals as goal

pub loop-i-preserved : goal.loop-i-preserved
loop-i-preserved c =
    let a = c.args in
    let s = c.loop-i.invariant in
    let i = c.loop-i.i in
    record {
      offsets = rw s.offsets (member_next (λ (s : Store). s.offset) a.stores.now a.offsets.now i _ c.loop-i-test.true c.requires.offsets_room);
      values = rw s.values (member_next (λ (s : Store). s.value) a.stores.now a.values.now i _ c.loop-i-test.true c.requires.values_room);
    }
