-- `records::bus_unit::ImplementedParts::parts` meets its contract. The invariant: the parts of the bits below one are stored.
-- The measure is the number of bits that are left.
-- Assumes nothing.
use Rattle.records.proofs.Parts.{Stored}
use Rattle.records.proofs.bus_unit.ImplementedParts.parts.Given as goal

abbrev pub invariant-loop-bit : goal.invariant-loop-bit
invariant-loop-bit l = Stored l.self.0 l.initial.out l.out l.count l.bit
