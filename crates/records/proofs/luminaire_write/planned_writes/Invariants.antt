-- `records::luminaire_write::planned_writes` meets its contract. The invariant: the writes of the fields before an
-- index are laid, and few.
-- Assumes nothing.
use Rattle.std.proofs.Common.{◌≡◌, ◌*◌, ◌≤◌, take}
use Rattle.bank.specs.Fields.{luminaire_fields}
use Rattle.records.specs.Writes.{gather, writes_at}
use Rattle.records.proofs.Planned.{Planned}
use Rattle.records.proofs.luminaire_write.planned_writes.Given as goal

abbrev pub invariant-loop-index : goal.invariant-loop-index
invariant-loop-index l =
    record {
      table : l.table ≡ luminaire_fields;
      few_writes : l.count ≤ l.index;
      few_bytes : l.used ≤ 60 * l.index;
      laid : Planned l.initial.writes l.initial.bytes (gather (writes_at l.fn.numbers l.fn.text_field l.text) (take l.index luminaire_fields)) l.writes l.bytes l.count l.used;
    }
