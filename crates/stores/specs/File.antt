-- 01, "Program `stores` reads standard input": what a file says.
-- Assumes nothing.
use Rattle.std.specs.Prelude.{Bool, true, not, cond, ◌&&◌, ◌||◌, List, [], ◌∷◌, ◌++◌, ℕ, ◌+◌, eqb, length, take, drop, get_or, None, Option, Some}
use Rattle.bus.specs.Number.{number}
use Rattle.bank.specs.declared.luminaire_write.FieldKind.{FieldKind}
use Rattle.bank.specs.declared.luminaire_write.FieldKind.TheVariants.{LayoutId, Number, Text}
use Rattle.bank.specs.declared.luminaire_write.LuminaireField.{LuminaireField}
use Rattle.bank.specs.declared.luminaire_write.Bank1Layout.{Bank1Layout}
use Rattle.bank.specs.Fields.{luminaire_fields}
use Rattle.bank.specs.Calls.{sum}
use Rattle.records.specs.declared.luminaire_write.LuminaireNumbers.{LuminaireNumbers}
use Rattle.records.specs.declared.luminaire_write.Plan.{Plan}
use Rattle.records.specs.Writes.{flat, same}

-- "the eleven numbers at their field widths (19)"
abbrev number_width : FieldKind → ℕ → List ℕ
number_width LayoutId n = []
number_width (Number patch r) n = n ∷ []
number_width (Text t) n = []

abbrev number_widths : List ℕ
number_widths = flat (λ (f : LuminaireField). number_width f.kind f.len) luminaire_fields

-- "the mark LWE, a 16-bit version 1, last offset (1 byte), content format id (2), patch mask (2), the eleven numbers ..,
-- text index .., text length (1)": how many bytes each part has
abbrev pub widths : List ℕ
widths = 3 ∷ 2 ∷ 1 ∷ 2 ∷ 2 ∷ number_widths ++ 1 ∷ 1 ∷ []

-- the bytes of a part, by its place among them
abbrev pub part : ℕ → List ℕ → List ℕ
part k file = take (get_or widths k 0) (drop (sum (take k widths)) file)

abbrev pub value : ℕ → List ℕ → ℕ
value k file = number (part k file)

-- "the mark LWE"
unfoldable pub is_marked : List ℕ → Bool
is_marked file = same (part 0 file) (0x4C ∷ 0x57 ∷ 0x45 ∷ [])

abbrev text_index : List ℕ → ℕ
text_index file = value 16 file

abbrev text_len : List ℕ → ℕ
text_len file = value 17 file

-- "`bad file` for a wrong mark, version or total length, or a length above 0 with index FF"
unfoldable pub is_good : List ℕ → Bool
is_good file =
    is_marked file
    && (eqb (value 1 file) 1
    && (eqb (length file) (sum widths + text_len file)
    && (not (eqb (text_index file) 0xFF) || eqb (text_len file) 0)))

-- "Implemented is taken as true."
unfoldable pub layout_in : List ℕ → Bank1Layout
layout_in file =
    record {
      implemented = Some true;
      content_format_id = Some (value 3 file);
      last_offset = Some (value 2 file);
    }

unfoldable pub numbers_in : List ℕ → LuminaireNumbers
numbers_in file =
    record {
      patch_mask = value 4 file;
      year = value 5 file;
      week = value 6 file;
      nominal_input_power_w = value 7 file;
      power_at_minimum_w = value 8 file;
      nominal_min_ac_voltage_v = value 9 file;
      nominal_max_ac_voltage_v = value 10 file;
      nominal_light_output_lm = value 11 file;
      cri = value 12 file;
      cct_kelvin = value 13 file;
      light_distribution_type = value 14 file;
      lamp_current_ma = value 15 file;
    }

-- "text index (FF hex: no text, length 0)"
unfoldable pub text_field_of : List ℕ → Option ℕ
text_field_of file = cond (eqb (text_index file) 0xFF) None (Some (text_index file))

-- "the text"
unfoldable pub text_in : List ℕ → List ℕ
text_in file = drop (sum widths) file

-- the plan that a file asks for
abbrev pub plan_in : List ℕ → Plan
plan_in file = record { layout = layout_in file; numbers = numbers_in file; text_field = text_field_of file }

abbrev pub parsed : List ℕ → Option Plan
parsed file = cond (is_good file) (Some (plan_in file)) None
