-- `bus::number_of` meets its contract. The invariant: number is that of the bytes so far, and below 2 to the 8 for each of them.
-- Assumes nothing.
use Rattle.std.proofs.Common.{◌≡◌, ◌*◌, ◌^◌, ◌<◌, take}
use Rattle.bus.specs.Number as spec
use Rattle.bus.proofs.number_of.Given as goal

abbrev pub invariant-loop-byte : goal.invariant-loop-byte
invariant-loop-byte l = (l.number < 2 ^ (8 * l.byte-index)) × (l.number ≡ spec.number (take l.byte-index l.first))
