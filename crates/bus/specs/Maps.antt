-- 01, closing list: "field maps are constant tables of offset and width". The tables of IEC 62386-251 and of
-- DiiA 252 and 253, and what is looked up in them.
-- Assumes nothing.
use Rattle.std.specs.Prelude.{◌≡◌, Bool, true, cond, ◌&&◌, List, [], ◌∷◌, ℕ, ◌+◌, ◌-◌, ◌≤◌, eqb, leb, ltb, None, Option, Some}
use Rattle.bus.specs.declared.ValueWidth.{ValueWidth}
use Rattle.bus.specs.declared.ValueWidth.TheVariants.{U8, U16, U24, U32, U48, I8}
use Rattle.bus.specs.declared.layout.BankField.{BankField}
use Rattle.bus.specs.declared.layout.BankMap.{BankMap}
use Rattle.bus.specs.declared.layout.BankMap.TheVariants.{LuminaireInfo, Energy, GearDiagnostics, SourceDiagnostics, Maintenance, Missing}
use Rattle.bus.specs.Width.{bytes_of}
use Rattle.bus.specs.Contiguous.{Contiguous}

-- a field: its offset and its width
abbrev f : ℕ → ValueWidth → BankField
f o w = record { offset = o; width = w }

-- bank 1 (IEC 62386-251)
abbrev pub luminaire_info : List BankField
luminaire_info =
    f 0x00 U8 ∷ f 0x01 U8 ∷ f 0x02 U8 ∷ f 0x03 U8 ∷ f 0x04 U8 ∷ f 0x05 U8 ∷ f 0x06 U8 ∷ f 0x07 U8
    ∷ f 0x08 U8 ∷ f 0x09 U8 ∷ f 0x0A U8 ∷ f 0x0B U8 ∷ f 0x0C U8 ∷ f 0x0D U8 ∷ f 0x0E U8 ∷ f 0x0F U8
    ∷ f 0x10 U8 ∷ f 0x11 U16 ∷ f 0x13 U8 ∷ f 0x14 U8 ∷ f 0x15 U16 ∷ f 0x17 U16 ∷ f 0x19 U16 ∷ f 0x1B U16
    ∷ f 0x1D U24 ∷ f 0x20 U8 ∷ f 0x21 U16 ∷ f 0x23 U8 ∷ []

-- banks 202 to 204 (DiiA 252 §9.2.9 to §9.2.11)
abbrev pub energy : List BankField
energy = f 0x00 U8 ∷ f 0x01 U8 ∷ f 0x02 U8 ∷ f 0x03 U8 ∷ f 0x04 I8 ∷ f 0x05 U48 ∷ f 0x0B I8 ∷ f 0x0C U32 ∷ []

-- bank 205 (DiiA 253 §9.2.16)
abbrev pub gear_diagnostics : List BankField
gear_diagnostics =
    f 0x00 U8 ∷ f 0x01 U8 ∷ f 0x02 U8 ∷ f 0x03 U8 ∷ f 0x04 U32 ∷ f 0x08 U24 ∷ f 0x0B U16 ∷ f 0x0D U8
    ∷ f 0x0E U8 ∷ f 0x0F U8 ∷ f 0x10 U8 ∷ f 0x11 U8 ∷ f 0x12 U8 ∷ f 0x13 U8 ∷ f 0x14 U8 ∷ f 0x15 U8
    ∷ f 0x16 U8 ∷ f 0x17 U8 ∷ f 0x18 U8 ∷ f 0x19 U8 ∷ f 0x1A U8 ∷ f 0x1B U8 ∷ f 0x1C U8 ∷ []

-- bank 206 (DiiA 253 §9.2.17)
abbrev pub source_diagnostics : List BankField
source_diagnostics =
    f 0x00 U8 ∷ f 0x01 U8 ∷ f 0x02 U8 ∷ f 0x03 U8 ∷ f 0x04 U24 ∷ f 0x07 U24 ∷ f 0x0A U32 ∷ f 0x0E U32
    ∷ f 0x12 U16 ∷ f 0x14 U16 ∷ f 0x16 U8 ∷ f 0x17 U8 ∷ f 0x18 U8 ∷ f 0x19 U8 ∷ f 0x1A U8 ∷ f 0x1B U8
    ∷ f 0x1C U8 ∷ f 0x1D U8 ∷ f 0x1E U8 ∷ f 0x1F U8 ∷ f 0x20 U8 ∷ []

-- bank 207 (DiiA 253 §9.2.18)
abbrev pub maintenance : List BankField
maintenance = f 0x00 U8 ∷ f 0x01 U8 ∷ f 0x02 U8 ∷ f 0x03 U8 ∷ f 0x04 U8 ∷ f 0x05 U8 ∷ f 0x06 U16 ∷ []

-- the fields of each map; a bank that is not named has none
abbrev pub fields : BankMap → List BankField
fields LuminaireInfo = luminaire_info
fields Energy = energy
fields GearDiagnostics = gear_diagnostics
fields SourceDiagnostics = source_diagnostics
fields Maintenance = maintenance
fields Missing = []

-- the offset behind a map's last byte: "The bank 1 map ends at 23 hex"
abbrev pub map_end : BankMap → ℕ
map_end LuminaireInfo = 0x23 + 1
map_end Energy = 0x0F + 1
map_end GearDiagnostics = 0x1C + 1
map_end SourceDiagnostics = 0x20 + 1
map_end Maintenance = 0x07 + 1
map_end Missing = 0

-- the last offset of banks 202 to 207, which end with their map; how long a bank 1 is, its own first byte says
abbrev pub fixed_last : BankMap → Option ℕ
fixed_last LuminaireInfo = None
fixed_last Energy = Some (map_end Energy - 1)
fixed_last GearDiagnostics = Some (map_end GearDiagnostics - 1)
fixed_last SourceDiagnostics = Some (map_end SourceDiagnostics - 1)
fixed_last Maintenance = Some (map_end Maintenance - 1)
fixed_last Missing = None

-- the map of a bank, by its number
unfoldable pub map_at : ℕ → BankMap
map_at bank =
    cond (eqb bank 1) LuminaireInfo
    (cond (leb 202 bank && leb bank 204) Energy
    (cond (eqb bank 205) GearDiagnostics
    (cond (eqb bank 206) SourceDiagnostics
    (cond (eqb bank 207) Maintenance Missing))))

-- the fields of a bank, by rising offset
abbrev pub map_of : ℕ → List BankField
map_of bank = fields (map_at bank)

-- a field's first offset, and the offset behind its last byte
abbrev pub start_of : BankField → ℕ
start_of x = x.offset

abbrev pub end_of : BankField → ℕ
end_of x = x.offset + bytes_of x.width

-- the byte at the offset is one of the field's
abbrev pub holds : ℕ → BankField → Bool
holds o x = leb x.offset o && ltb o (end_of x)

-- the first element that passes a test
unfoldable pub first_with : {A : Type 0} → (A → Bool) → List A → Option A
first_with p [] = None
first_with p (x ∷ xs) = cond (p x) (Some x) (first_with p xs)

-- the field of a bank that the byte at an offset belongs to
abbrev pub field_containing : ℕ → ℕ → Option BankField
field_containing bank o = first_with (holds o) (map_of bank)

-- an offset is a boundary where a field starts, and where there is no field
abbrev pub starts_at : ℕ → Option BankField → Bool
starts_at o (Some x) = eqb x.offset o
starts_at o None = true

-- a part of a bank that starts at the offset, or ends before it, cuts no field
abbrev pub is_boundary : ℕ → ℕ → Bool
is_boundary bank o = starts_at o (field_containing bank o)

-- The fields of a bank lie one behind the other, from offset 0 to the end of its map.
abbrev pub EveryMapContiguous : Type 0
EveryMapContiguous = (bank : ℕ) → Contiguous start_of end_of 0 (map_end (map_at bank)) (map_of bank)

-- The field found for an offset holds it, and none is found exactly from the end of the map on.
pub record Found (bank o : ℕ) : Type 0 where
  pub holds_it : {x : BankField} → field_containing bank o ≡ Some x → holds o x ≡ true
  pub none_behind : map_end (map_at bank) ≤ o → field_containing bank o ≡ None
  pub none_only_behind : field_containing bank o ≡ None → map_end (map_at bank) ≤ o

abbrev pub EveryOffsetFound : Type 0
EveryOffsetFound = (bank o : ℕ) → Found bank o
