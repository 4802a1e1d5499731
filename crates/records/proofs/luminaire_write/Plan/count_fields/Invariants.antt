-- `records::luminaire_write::Plan::count_fields` meets its contract. The invariant: no check of the fields before a place
-- applies, and their stores are counted. The measure is what is left of the table.
-- Assumes nothing.
use Rattle.std.specs.Prelude.{◌≡◌, ◌≤◌, ◌*◌, ◌-◌, None, length, take}
use Rattle.bank.specs.Refusal.{first_of}
use Rattle.bank.specs.Fields.{luminaire_fields}
use Rattle.records.specs.Writes.{gather}
use Rattle.records.specs.Plan.{field_checks}
use Rattle.records.proofs.Room.{front}
use Rattle.records.proofs.luminaire_write.Plan.count_fields.Given as goal

abbrev pub invariant-loop-row : goal.invariant-loop-row
invariant-loop-row l =
    record {
      within : l.from ≤ 18;
      passed : first_of (gather (field_checks l.self l.text) (take l.from luminaire_fields)) ≡ None;
      few : l.count ≤ 61 * l.from;
      counted : l.count ≡ length (front l.self.numbers l.self.text_field l.text l.from);
    }

abbrev pub decreases-loop-row : goal.decreases-loop-row
decreases-loop-row l = 18 - l.from
