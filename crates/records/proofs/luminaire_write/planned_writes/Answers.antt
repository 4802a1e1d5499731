-- `records::luminaire_write::planned_writes` meets its contract, by its invariant.
-- Assumes nothing.
use Rattle.std.proofs.Common.{ap, length, arith}
use Rattle.records.proofs.Table.{table_length, all_fields}
use Rattle.records.proofs.Stages.{set_some, set_none}
use Rattle.records.proofs.Planned.{none_next, own_next, all_planned}
use Rattle.records.proofs.luminaire_write.planned_writes.Goals as goal
use Rattle.records.proofs.luminaire_write.planned_writes.Goals.{then-set_bytes, else-set_bytes}

pub overflow_add-used : goal.overflow_add-used
overflow_add-used c = omega (arith, c.loop-index.invariant.few_bytes, ap length c.loop-index.invariant.table, table_length, c.len-used.ensures.few)

pub loop-index-preserved : goal.loop-index-preserved
loop-index-preserved c =
    let a = c.args in
    let s = c.loop-index.invariant in
    let i = c.loop-index.index in
    elim c.if-set_bytes.branch [
      | then-set_bytes w ↦
          record {
            table = s.table;
            few_writes = omega (arith, s.few_writes, w.count-is);
            few_bytes = omega (arith, s.few_bytes, w.used-is, w.len-used.ensures.few);
            laid =
                rw (w.writes-is, w.bytes-is, w.count-is, w.used-is, w.put.ensures, w.put_all.ensures, w.len.ensures.value, w.len-used.ensures.value, w.as_slice.ensures)
                (own_next a.numbers a.text_field a.text.now s.table i _ c.loop-index-test.true s.laid (set_some c.set_bytes.ensures w.if-set_bytes.true));
          }
      | else-set_bytes w ↦
          record {
            table = s.table;
            few_writes = omega (arith, s.few_writes, w.count-is);
            few_bytes = omega (arith, s.few_bytes, w.used-is);
            laid = rw (w.writes-is, w.bytes-is, w.count-is, w.used-is) (none_next a.numbers a.text_field a.text.now s.table i _ c.loop-index-test.true s.laid (set_none _ c.set_bytes.ensures w.if-set_bytes.false));
          }
    ]

pub returns : goal.returns
returns c =
    let a = c.args in
    let s = c.loop-index.invariant in
    let d = all_planned a.numbers a.text_field a.text.now (all_fields s.table c.loop-index.index c.loop-index-test.false) s.laid in
    record { count = d.count_is; writes = d.writes; bytes = d.bytes }
