-- `records::luminaire_write::Plan::lay` meets its contract. The invariant: the stores of the fields before a place are laid.
-- The measure is what is left of the table.
-- Assumes nothing.
use Rattle.std.specs.Prelude.{◌≡◌, ◌≤◌, ◌-◌, length}
use Rattle.bus.specs.Value.{laid_into}
use Rattle.records.proofs.Room.{front}
use Rattle.records.proofs.luminaire_write.Plan.lay.Given as goal

abbrev pub invariant-loop-row : goal.invariant-loop-row
invariant-loop-row l =
    record {
      within : l.from ≤ 18;
      counted : l.laid ≡ length (front l.content.numbers l.content.text_field l.text l.from);
      stores : l.stores ≡ laid_into (front l.content.numbers l.content.text_field l.text l.from) l.initial.stores;
    }

abbrev pub decreases-loop-row : goal.decreases-loop-row
decreases-loop-row l = 18 - l.from
