-- 01, "May the field be written": the formats and the text fields of bank 1 (IEC 62386-251).
-- Assumes nothing.
use Rattle.std.specs.Prelude.{Bool, [], ◌∷◌, ℕ, ◌+◌, ◌-◌, eqb, leb, Option}
use Rattle.bus.specs.declared.part251.LuminaireFormat.{LuminaireFormat}
use Rattle.bus.specs.declared.part251.LuminaireFormat.TheVariants.{V3, V4, V5}
use Rattle.bus.specs.declared.part251.TextRegion.{TextRegion}
use Rattle.bus.specs.Maps.{first_with}

-- "Formats are ids 3, 4 and 5."
abbrev pub id_of : LuminaireFormat → ℕ
id_of V3 = 3
id_of V4 = 4
id_of V5 = 5

-- the format that has an id; any other number has none
unfoldable pub format_of : ℕ → Option LuminaireFormat
format_of id = first_with (λ v. eqb id (id_of v)) (V3 ∷ V4 ∷ V5 ∷ [])

-- "from format ..": that format and those behind it
abbrev pub from_format : LuminaireFormat → LuminaireFormat → Bool
from_format since v = leb (id_of since) (id_of v)

-- a text field, and the first format that has it
pub record TextField : Type 0 where
  pub region : TextRegion
  pub since : LuminaireFormat

abbrev text : ℕ → ℕ → LuminaireFormat → TextField
text o n since = record { region = record { offset = o; len = n }; since = since }

-- "Text fields (offset hex, length): colour 24, 24; identification 3C, 60; distribution 78, 24, from format 4; and
-- from format 5 OEM name 90, 32; stocking number B0, 16; free use C2, 8."
abbrev pub colour : TextField
colour = text 0x24 24 V3

abbrev pub identification : TextField
identification = text 0x3C 60 V3

abbrev pub distribution : TextField
distribution = text 0x78 24 V4

abbrev pub oem_name_field : TextField
oem_name_field = text 0x90 32 V5

abbrev pub stocking_number : TextField
stocking_number = text 0xB0 16 V5

abbrev pub free_use_field : TextField
free_use_field = text 0xC2 8 V5

-- "distribution .. from format 4"
abbrev pub has_light_distribution : LuminaireFormat → Bool
has_light_distribution v = from_format distribution.since v

-- "and from format 5 OEM name ..": the block that format 5 adds
abbrev pub has_extended_block : LuminaireFormat → Bool
has_extended_block v = from_format oem_name_field.since v

-- the offset of a text field's last byte
abbrev pub last_byte : TextField → ℕ
last_byte t = t.region.offset + t.region.len - 1

-- a bank of a format goes at least to the last byte of the format's last text
abbrev pub min_last_offset : LuminaireFormat → ℕ
min_last_offset V3 = last_byte identification
min_last_offset V4 = last_byte distribution
min_last_offset V5 = last_byte free_use_field
