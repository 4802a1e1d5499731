-- 01, "May the field be written": the fields of bank 1, what they accept, and the layout that a header gives.
-- Assumes nothing.
use Rattle.std.specs.Prelude.{List, [], ◌∷◌, slice_get, Bool, true, false, not, cond, ◌&&◌, ℕ, suc, ◌+◌, ◌-◌, ◌*◌, ◌^◌, eqb, leb, ltb, length, None, Option, Some, option_map}
use Rattle.bus.specs.declared.part251.LuminaireFormat.{LuminaireFormat}
use Rattle.bus.specs.declared.part251.LuminaireFormat.TheVariants.{V3, V5}
use Rattle.bus.specs.Number.{number}
use Rattle.bus.specs.Value.{bytes_at}
use Rattle.bus.specs.Contiguous.{Contiguous}
use Rattle.bus.specs.Part251.{TextField, colour, identification, distribution, oem_name_field, stocking_number, free_use_field}
use Rattle.bank.specs.declared.luminaire_write.NumberRule.{NumberRule}
use Rattle.bank.specs.declared.luminaire_write.NumberRule.TheVariants.{Year, Week, Power, MainsVoltage, LightOutput, Cri, Cct, LampCurrent}
use Rattle.bank.specs.declared.luminaire_write.LuminaireTextField.{LuminaireTextField}
use Rattle.bank.specs.declared.luminaire_write.LuminaireTextField.TheVariants.{LuminaireColour, LuminaireIdentification, LightDistribution, OemName, CustomerStockingNumber, FreeUse}
use Rattle.bank.specs.declared.luminaire_write.FieldKind.{FieldKind}
use Rattle.bank.specs.declared.luminaire_write.FieldKind.TheVariants.{LayoutId, Number, Text}
use Rattle.bank.specs.declared.luminaire_write.LuminaireField.{LuminaireField}
use Rattle.bank.specs.declared.luminaire_write.Bank1Layout.{Bank1Layout}
use Rattle.bank.specs.Rules.{shows}

-- "Each field is either the layout id, a number with its mask bit and its rule, or a text"
abbrev layout_id : ℕ → ℕ → LuminaireField
layout_id o n = record { offset = o; len = n; since = V3; kind = LayoutId }

abbrev number_since : LuminaireFormat → ℕ → ℕ → ℕ → NumberRule → LuminaireField
number_since v o n bit r = record { offset = o; len = n; since = v; kind = Number (2 ^ bit) r }

abbrev num : ℕ → ℕ → ℕ → NumberRule → LuminaireField
num = number_since V3

abbrev text : TextField → LuminaireTextField → LuminaireField
text t which = record { offset = t.region.offset; len = t.region.len; since = t.since; kind = Text which }

-- `LUMINAIRE_FIELDS` (001), by rising offset; "Mask bits 0 to 10 are the numbers in the order of `number_values`";
-- "Lamp current, C0, is from format 5."
unfoldable pub luminaire_fields : List LuminaireField
luminaire_fields =
    layout_id 0x11 2
    ∷ num 0x13 1 0 Year
    ∷ num 0x14 1 1 Week
    ∷ num 0x15 2 2 Power
    ∷ num 0x17 2 3 Power
    ∷ num 0x19 2 4 MainsVoltage
    ∷ num 0x1B 2 5 MainsVoltage
    ∷ num 0x1D 3 6 LightOutput
    ∷ num 0x20 1 7 Cri
    ∷ num 0x21 2 8 Cct
    ∷ num 0x23 1 9 NumberRule.LightDistributionType
    ∷ text colour LuminaireColour
    ∷ text identification LuminaireIdentification
    ∷ text distribution LightDistribution
    ∷ text oem_name_field OemName
    ∷ text stocking_number CustomerStockingNumber
    ∷ number_since V5 0xC0 2 10 LampCurrent
    ∷ text free_use_field FreeUse
    ∷ []

-- which text a field is, by the text's place among the six
abbrev text_number : LuminaireTextField → ℕ
text_number LuminaireColour = 0
text_number LuminaireIdentification = 1
text_number LightDistribution = 2
text_number OemName = 3
text_number CustomerStockingNumber = 4
text_number FreeUse = 5

abbrev is_text : LuminaireTextField → FieldKind → Bool
is_text which LayoutId = false
is_text which (Number patch r) = false
is_text which (Text t) = eqb (text_number t) (text_number which)

-- "A field index is a place, 0 to 17, in `LUMINAIRE_FIELDS`": the first place of a text
abbrev place_in : List LuminaireField → LuminaireTextField → Option ℕ
place_in [] which = None
place_in (f ∷ fs) which = cond (is_text which f.kind) (Some 0) (option_map suc (place_in fs which))

unfoldable pub place_of : LuminaireTextField → Option ℕ
place_of which = place_in luminaire_fields which

-- the offset behind a field's last byte, and that of its last byte
abbrev pub field_end : LuminaireField → ℕ
field_end f = f.offset + f.len

abbrev pub last_offset_of : LuminaireField → ℕ
last_offset_of f = field_end f - 1

abbrev pub ends_by : LuminaireField → ℕ → Bool
ends_by f last = leb (last_offset_of f) last

-- a number has no more than so many bytes
abbrev pub fits : ℕ → ℕ → Bool
fits len n = ltb n (2 ^ (8 * len))

abbrev pub shown_by : FieldKind → LuminaireFormat → ℕ → Bool
shown_by LayoutId v n = false
shown_by (Number patch r) v n = shows r v n
shown_by (Text t) v n = false

-- "`accepts_number` wants the value to fit its field and to show back"
abbrev pub accepts_number : LuminaireField → LuminaireFormat → ℕ → Bool
accepts_number f v n = shown_by f.kind v n && fits f.len n

-- "bytes 20 to 7E hex"
abbrev pub is_printable : ℕ → Bool
is_printable b = leb 0x20 b && leb b 0x7E

unfoldable pub printable : List ℕ → Bool
printable [] = true
printable (b ∷ bs) = is_printable b && printable bs

-- 02, F-1: "the index of the first byte outside 20 to 7E hex", if there is one
unfoldable pub first_not_printable : List ℕ → Option ℕ
first_not_printable [] = None
first_not_printable (b ∷ bs) = cond (is_printable b) (option_map suc (first_not_printable bs)) (Some 0)

abbrev pub is_text_kind : FieldKind → Bool
is_text_kind LayoutId = false
is_text_kind (Number patch r) = false
is_text_kind (Text t) = true

-- "`accepts_text` wants a text field, at most its length, bytes 20 to 7E hex"
abbrev pub accepts_text : LuminaireField → List ℕ → Bool
accepts_text f bytes = is_text_kind f.kind && (leb (length bytes) f.len && printable bytes)

-- the content format id that a header holds, if it is wholly present
unfoldable pub id_in : List ℕ → Option ℕ
id_in header = option_map number (bytes_at 0x11 2 header)

-- "A layout has three optional parts (implemented, content format id, last offset); `Bank1Layout::from_header` sets
-- implemented to false for an empty header"
abbrev pub from_header : List ℕ → Bank1Layout
from_header header =
    record {
      implemented = Some (not (eqb (length header) 0));
      content_format_id = id_in header;
      last_offset = slice_get header 0;
    }

-- The 18 fields lie one behind the other, from the content format id to the last text.
abbrev pub FieldsContiguous : Type 0
FieldsContiguous = Contiguous (λ (f : LuminaireField). f.offset) field_end 0x11 0xCA luminaire_fields
