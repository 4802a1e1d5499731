-- 01, "The records": "Implemented parts (006)", and the configurations of the same file (DiiA 098bp, table 5).
-- Assumes nothing.
use Rattle.std.specs.Prelude.{◌≡◌, Bool, cond, List, [], ◌∷◌, ◌++◌, ℕ, ◌+◌, ◌/◌, ◌%◌, ◌^◌, eqb, leb, None, Option, Some}
use Rattle.bus.specs.Maps.{first_with}
use Rattle.records.specs.declared.bus_unit.EmergencyGearType.{EmergencyGearType}
use Rattle.records.specs.declared.bus_unit.EmergencyGearType.TheVariants.{A, B, C, D}
use Rattle.records.specs.declared.bus_unit.BusUnitConfiguration.{BusUnitConfiguration}
use Rattle.records.specs.declared.bus_unit.BusUnitConfiguration.TheVariants.{Defined, EmergencyType, Reserved, ManufacturerSpecific}

-- the byte of each type of emergency gear
abbrev pub gear_byte : EmergencyGearType → ℕ
gear_byte A = 9
gear_byte B = 10
gear_byte C = 11
gear_byte D = 12

-- and its letter
abbrev pub letter_of : EmergencyGearType → ℕ
letter_of A = 0x41
letter_of B = 0x42
letter_of C = 0x43
letter_of D = 0x44

abbrev pub emergency_letter : BusUnitConfiguration → Option ℕ
emergency_letter (Defined n) = None
emergency_letter (EmergencyType t) = Some (letter_of t)
emergency_letter (Reserved n) = None
emergency_letter (ManufacturerSpecific n) = None

-- the byte of each configuration
abbrev pub raw_of : BusUnitConfiguration → ℕ
raw_of (Defined n) = n
raw_of (EmergencyType t) = gear_byte t
raw_of (Reserved n) = n
raw_of (ManufacturerSpecific n) = n

-- the type of emergency gear that a byte stands for
unfoldable pub emergency : ℕ → Option EmergencyGearType
emergency n = first_with (λ t. eqb n (gear_byte t)) (A ∷ B ∷ C ∷ D ∷ [])

abbrev pub configuration : ℕ → Option EmergencyGearType → BusUnitConfiguration
configuration n (Some t) = EmergencyType t
configuration n None = cond (leb n 8) (Defined n) (cond (leb n 191) (Reserved n) (ManufacturerSpecific n))

-- the configuration of each byte: 0 to 8 are defined, 9 to 12 emergency gear, those to 191 reserved, the others the
-- manufacturer's
unfoldable pub from_byte : ℕ → BusUnitConfiguration
from_byte n = configuration n (emergency n)

-- bits 0 to 4 have a meaning: no higher one is set
abbrev pub in_range : ℕ → Bool
in_range raw = eqb (raw / 2 ^ 5) 0

-- "bits 0 to 4 are parts 150 to 154"
abbrev pub part_of : ℕ → ℕ → List ℕ
part_of raw bit = cond (eqb (raw / 2 ^ bit % 2) 1) ((150 + bit) ∷ []) []

-- "a higher bit gives none"
abbrev pub parts_of : ℕ → List ℕ
parts_of raw =
    cond (in_range raw) (part_of raw 0 ++ part_of raw 1 ++ part_of raw 2 ++ part_of raw 3 ++ part_of raw 4) []

-- A configuration keeps its byte.
abbrev pub EveryByteKept : Type 0
EveryByteKept = (n : ℕ) → raw_of (from_byte n) ≡ n
