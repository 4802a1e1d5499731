-- `records::bus_unit::ImplementedParts::parts` meets its contract, by its invariant.
-- Assumes nothing.
use mathlib.Core.Path.{◌∙◌}
use Rattle.records.proofs.Parts.{set_bit, clear_bit}
use Rattle.records.proofs.bus_unit.ImplementedParts.parts.Goals as goal
use Rattle.records.proofs.bus_unit.ImplementedParts.parts.Goals.{else-self-bit-eq1, then-self-bit-eq1}

pub loop-bit-preserved : goal.loop-bit-preserved
loop-bit-preserved c =
    elim c.if-self-bit-eq1.branch [
      | then-self-bit-eq1 w ↦ set_bit c.loop-bit.invariant w.if-self-bit-eq1.true (w.out-is ∙ w.put.ensures) w.count-is
      | else-self-bit-eq1 w ↦ clear_bit c.loop-bit.invariant w.if-self-bit-eq1.false w.out-is w.count-is
    ]
