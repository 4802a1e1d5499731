-- A configuration keeps its byte.
-- Assumes nothing.
use Rattle.std.specs.Prelude.{None, Option, Some}
use mathlib.Core.Path.{◌≡◌, refl, sym}
use mathlib.Core.Bool.{Bool, true, false, cond}
use mathlib.Core.List.{[], ◌∷◌}
use borrow.Author.Tests.{eqb-true}
use lib.Dec.{eqb, leb}
use Rattle.bus.proofs.Lists.{first_passes}
use Rattle.records.specs.declared.bus_unit.EmergencyGearType.{EmergencyGearType}
use Rattle.records.specs.declared.bus_unit.EmergencyGearType.TheVariants.{A, B, C, D}
use Rattle.records.specs.declared.bus_unit.BusUnitConfiguration.TheVariants.{Defined, Reserved, ManufacturerSpecific}
use Rattle.records.specs.BusUnit.{gear_byte, emergency, raw_of, configuration, from_byte, EveryByteKept}

pub every_byte_kept : EveryByteKept
unfolding from_byte emergency
every_byte_kept n = by (emergency n) refl
  where
    ranges : (a b : Bool) → raw_of (cond a (Defined n) (cond b (Reserved n) (ManufacturerSpecific n))) ≡ n
    ranges true b = refl
    ranges false true = refl
    ranges false false = refl

    by : (o : Option EmergencyGearType) → emergency n ≡ o → raw_of (configuration n o) ≡ n
    by None e = ranges (leb n 8) (leb n 191)
    by (Some t) e = sym (eqb-true n (gear_byte t) (first_passes (λ (g : EmergencyGearType). eqb n (gear_byte g)) (A ∷ B ∷ C ∷ D ∷ []) e))
