-- 02, F-12, "Bus traffic beforehand": the number of a plan's stores, that it is the laid list's, and the most that there are.
-- Assumes nothing.
use Rattle.std.specs.Prelude.{◌≡◌, Bool, true, false, cond, ◌&&◌, List, [], ◌∷◌, map, replicate, ℕ, ◌+◌, ◌≤◌, ◌<◌, min, max, length, Err, None, Ok, Result, Some}
use Rattle.bus.specs.declared.part251.LuminaireFormat.{LuminaireFormat}
use Rattle.bus.specs.declared.part251.LuminaireFormat.TheVariants.{V3, V4, V5}
use Rattle.bus.specs.Part251.{id_of, from_format}
use Rattle.bank.specs.declared.refusal.Refusal.{Refusal}
use Rattle.bank.specs.declared.refusal.Refusal.TheVariants.{SliceTooShort}
use Rattle.bank.specs.declared.luminaire_write.FieldKind.{FieldKind}
use Rattle.bank.specs.declared.luminaire_write.FieldKind.TheVariants.{LayoutId, Number, Text}
use Rattle.bank.specs.declared.luminaire_write.LuminaireField.{LuminaireField}
use Rattle.bank.specs.Refusal.{first_of, checked}
use Rattle.bank.specs.Fields.{luminaire_fields, is_text_kind}
use Rattle.bank.specs.Writable.{format_in}
use Rattle.bank.specs.Calls.{sum}
use Rattle.records.specs.declared.luminaire_write.Plan.{Plan}
use Rattle.records.specs.declared.luminaire_write.TheConstants.{MOST_STORES}
use Rattle.records.specs.Plan.{plan_checks, stores_of, planned}

-- "from a plan's inputs its number of stores without laying them"; "a refusal is the same one .., except that 13 .. can't
-- arise"
unfoldable pub counted_stores : Plan → List ℕ → Result ℕ Refusal
counted_stores p text = checked (plan_checks p text) Err (Ok (length (stores_of p text)))

-- "Both equal what the real run does": what `Plan::stores` answers
pub record AsLaid (p : Plan) (text os vs : List ℕ) : Type 0 where
  pub accepted : {n : ℕ} → planned p text os vs ≡ Ok n → counted_stores p text ≡ Ok n
  pub refused : {r : Refusal} → planned p text os vs ≡ Err r → (r ≡ SliceTooShort → ⊥) → counted_stores p text ≡ Err r
  -- where a slice is too short, the count is the length that was lacking
  pub lacking : planned p text os vs ≡ Err SliceTooShort
      → (counted_stores p text ≡ Ok (length (stores_of p text))) × (min (length os) (length vs) < length (stores_of p text))

abbrev pub StoresAsLaid : Type 0
StoresAsLaid = (p : Plan) (text os vs : List ℕ) → AsLaid p text os vs

-- ---- "no accepted plan has more than 78 stores in formats 3 and 4 or 80 in format 5"

abbrev pub is_number_kind : FieldKind → Bool
is_number_kind LayoutId = false
is_number_kind (Number patch r) = true
is_number_kind (Text t) = false

-- the bytes of a field that the format has, if it is a number, and if it is a text
abbrev pub number_len : LuminaireFormat → LuminaireField → ℕ
number_len v f = cond (is_number_kind f.kind && from_format f.since v) f.len 0

abbrev pub text_len : LuminaireFormat → LuminaireField → ℕ
text_len v f = cond (is_text_kind f.kind && from_format f.since v) f.len 0

abbrev pub longest : List ℕ → ℕ
longest [] = 0
longest (n ∷ ns) = max n (longest ns)

-- the bytes of all its numbers, and one more than its longest text
unfoldable pub most_stores : LuminaireFormat → ℕ
most_stores v = sum (map (number_len v) luminaire_fields) + (longest (map (text_len v) luminaire_fields) + 1)

-- "a plan that reaches each": all numbers of the format, and the identification, filled
abbrev all_bits : LuminaireFormat → ℕ
all_bits V3 = 0x3FF
all_bits V4 = 0x3FF
all_bits V5 = 0x7FF

abbrev pub full_plan : LuminaireFormat → Plan
full_plan v =
    record {
      layout = record { implemented = Some true; content_format_id = Some (id_of v); last_offset = Some 0xC9 };
      numbers =
          record {
            patch_mask = all_bits v;
            year = 26;
            week = 47;
            nominal_input_power_w = 40;
            power_at_minimum_w = 4;
            nominal_min_ac_voltage_v = 220;
            nominal_max_ac_voltage_v = 240;
            nominal_light_output_lm = 4000;
            cri = 80;
            cct_kelvin = 3000;
            light_distribution_type = 1;
            lamp_current_ma = 700;
          };
      text_field = Some 12;
    }

abbrev pub full_text : List ℕ
full_text = replicate 60 0x41

pub record Reached (v : LuminaireFormat) : Type 0 where
  pub of_format : format_in (full_plan v).layout.content_format_id ≡ Some v
  pub is_accepted : first_of (plan_checks (full_plan v) full_text) ≡ None
  pub reaches : length (stores_of (full_plan v) full_text) ≡ most_stores v

pub record AtMost78And80 : Type 0 where
  pub at_most : (p : Plan) (text : List ℕ) (v : LuminaireFormat) → format_in p.layout.content_format_id ≡ Some v
      → first_of (plan_checks p text) ≡ None → length (stores_of p text) ≤ most_stores v
  pub in_format_3 : most_stores V3 ≡ 78
  pub in_format_4 : most_stores V4 ≡ 78
  pub in_format_5 : most_stores V5 ≡ 80
  -- the room that is enough for any plan
  pub room : MOST_STORES ≡ most_stores V5
  pub reached : (v : LuminaireFormat) → Reached v
  -- an accepted plan without such a format has no stores
  pub in_none : (p : Plan) (text : List ℕ) → format_in p.layout.content_format_id ≡ None
      → first_of (plan_checks p text) ≡ None → length (stores_of p text) ≡ 0
