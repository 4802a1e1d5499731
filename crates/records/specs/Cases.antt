-- 01, "Cases ([P]: proved)": one table, which `proofs/Cases.antt` proves as a whole.
-- Assumes nothing.
use Rattle.std.specs.Prelude.{◌≡◌, Bool, true, false, cond, List, [], ◌∷◌, map, ℕ, zero, suc, ℤ, pos, neg_ℤ, length, Err, None, Ok, Option, Result, Some, slice_get}
use Rattle.bus.specs.declared.ValueWidth.TheVariants.{I8}
use Rattle.bus.specs.declared.part251.LuminaireFormat.TheVariants.{V3, V4}
use Rattle.bank.specs.declared.part251.CctReading.{CctReading}
use Rattle.bank.specs.declared.part251.CctReading.TheVariants.{Kelvin, Part209Implemented}
use Rattle.bank.specs.declared.part251.LightDistributionType.{LightDistributionType}
use Rattle.bank.specs.declared.part251.LightDistributionType.TheVariants.{«Type», Reserved}
use Rattle.bank.specs.declared.read_out.ReadOut.{ReadOut}
use Rattle.bank.specs.declared.luminaire_write.LuminaireField.{LuminaireField}
use Rattle.bank.specs.declared.luminaire_write.Bank1Layout.{Bank1Layout}
use Rattle.bank.specs.Refusal.{number_of, checked}
use Rattle.bank.specs.Readings.{cct_of, type_of}
use Rattle.bank.specs.Fields.{luminaire_fields, from_header}
use Rattle.bank.specs.Writable.{check_writable}
use Rattle.bank.specs.Chunk.{chunk_len}
use Rattle.bank.specs.declared.layout.ChunkMode.TheVariants.{Plain}
use Rattle.bank.specs.ReadOut.{fresh, advanced, is_done, wanted_len}
use Rattle.records.specs.declared.attributes.BankReading.{BankReading}
use Rattle.records.specs.Places.{reading_at, scale_at}
use Rattle.records.specs.declared.luminaire_write.LuminaireNumbers.{LuminaireNumbers}
use Rattle.records.specs.declared.luminaire_write.Plan.{Plan}
use Rattle.records.specs.Text.{escaped}
use Rattle.records.specs.Writes.{Store}
use Rattle.records.specs.Plan.{plan_checks, stores_of}
use Rattle.bus.specs.declared.part251.LuminaireFormat.{LuminaireFormat}
use Rattle.bank.specs.declared.refusal.Refusal.{Refusal}

-- what a case speaks of: a number, the lengths of a read-out's chunks, a reading, a scale, a colour temperature, a
-- distribution type, the bytes of a text, the stores of a plan
pub data Answer : Type 0 where
  number : ℕ → Answer
  lengths : List ℕ → Answer
  reading : Option BankReading → Answer
  scale : Option ℤ → Answer
  text : List ℕ → Answer
  temperature : CctReading → Answer
  type : LightDistributionType → Answer
  stores : List Store → Answer

infix 70 ◌is◌
-- a case: what the definitions give, and what 01 says that it is
pub record Case : Type 0 where
  pub given : Answer
  pub said : Answer

abbrev ◌is◌ : Answer → Answer → Case
a is b = record { given = a; said = b }

-- the lengths of the chunks of a read-out at one budget, at most so many of them
abbrev chunks : ℕ → ReadOut → ℕ → List ℕ
chunks zero r budget = []
chunks (suc n) r budget =
    let wanted = wanted_len chunk_len r budget in
    cond (is_done r) [] (wanted ∷ chunks n (advanced r wanted) budget)

abbrev read_out_of : ℕ → ℕ → ℕ → Answer
read_out_of bank len budget = lengths (chunks len (fresh bank len Plain) budget)

abbrev signed_byte : ℕ → Answer
signed_byte b = reading (reading_at 0 (b ∷ []) 0 I8)

abbrev says : Option ℕ → Bool → Bool → Bool → Answer
says value missing unavailable saturated =
    reading (Some (record {
      value = value;
      not_implemented = missing;
      temporarily_unavailable = unavailable;
      saturated = saturated;
      tmask_since_ms = None;
    }))

abbrev scale_byte : ℕ → Answer
scale_byte b = scale (scale_at 0 (b ∷ []) 0)

-- the number of a refusal, 0 for none
abbrev refusal_of : Result LuminaireFormat Refusal → ℕ
refusal_of (Ok v) = 0
refusal_of (Err r) = number_of r

abbrev writing : Option LuminaireField → Bank1Layout → Answer
writing (Some f) l = number (refusal_of (check_writable l f))
writing None l = number 0

-- the second of the 18 fields
abbrev field_year : Bank1Layout → Answer
field_year l = writing (slice_get luminaire_fields 1) l

abbrev nothing_read : Bank1Layout
nothing_read = record { implemented = None; content_format_id = None; last_offset = None }

-- "Format 5, last offset C9 hex, empty mask": the plan of a text
abbrev no_numbers : LuminaireNumbers
no_numbers =
    record {
      patch_mask = 0;
      year = 0;
      week = 0;
      nominal_input_power_w = 0;
      power_at_minimum_w = 0;
      nominal_min_ac_voltage_v = 0;
      nominal_max_ac_voltage_v = 0;
      nominal_light_output_lm = 0;
      cri = 0;
      cct_kelvin = 0;
      light_distribution_type = 0;
      lamp_current_ma = 0;
    }

abbrev text_plan : ℕ → Plan
text_plan index =
    record {
      layout = record { implemented = Some true; content_format_id = Some 5; last_offset = Some 0xC9 };
      numbers = no_numbers;
      text_field = Some index;
    }

-- its stores, or the number of its refusal
abbrev planned : ℕ → List ℕ → Answer
planned index letters = checked (plan_checks (text_plan index) letters) (λ r. number (number_of r)) (stores (stores_of (text_plan index) letters))

-- and their count
abbrev counted : ℕ → List ℕ → Answer
counted index letters = checked (plan_checks (text_plan index) letters) (λ r. number (number_of r)) (number (length (stores_of (text_plan index) letters)))

abbrev at : ℕ → ℕ → Store
at offset value = record { offset = offset; value = value }

unfoldable pub cases : List Case
cases =
    -- "`chunk_len`(202, 5, 6, 4) = 6; (202, 5, 5, 4) = 4; (202, 6, 10, 8) = 8; (202, 5, 6, 0) = 6; (9, 0, 5, 0) = 0"
    number (chunk_len 202 5 6 4) is number 6
    ∷ number (chunk_len 202 5 5 4) is number 4
    ∷ number (chunk_len 202 6 10 8) is number 8
    ∷ number (chunk_len 202 5 6 0) is number 6
    ∷ number (chunk_len 9 0 5 0) is number 0
    -- "(1, 35, 10, 8) = 1; (1, 192, 10, 1) = 1"
    ∷ number (chunk_len 1 35 10 8) is number 1
    ∷ number (chunk_len 1 192 10 1) is number 1
    -- "Bank 202, length 16: budget 5 gives 5, 6, 5; budget 8 gives 5, 7, 4"
    ∷ read_out_of 202 16 5 is lengths (5 ∷ 6 ∷ 5 ∷ [])
    ∷ read_out_of 202 16 8 is lengths (5 ∷ 7 ∷ 4 ∷ [])
    -- "Signed byte: 7F hex not implemented, 7E unavailable, 7D saturated"
    ∷ signed_byte 0x7F is says None true false false
    ∷ signed_byte 0x7E is says None false true false
    ∷ signed_byte 0x7D is says (Some 0x7D) false false true
    -- "Scale: FF is −1, F9 absent"
    ∷ scale_byte 0xFF is scale (Some (neg_ℤ (pos 1)))
    ∷ scale_byte 0xF9 is scale None
    -- "Colour temperature 17000 shown, 17001 unknown, 65534 part 209, 65535 unknown"
    ∷ temperature (cct_of 17000) is temperature (Kelvin 17000)
    ∷ temperature (cct_of 17001) is temperature CctReading.Unknown
    ∷ temperature (cct_of 65534) is temperature Part209Implemented
    ∷ temperature (cct_of 65535) is temperature CctReading.Unknown
    -- "Type 6: reserved in format 3, shown in 4"
    ∷ type (type_of V3 6) is type (Reserved 6)
    ∷ type (type_of V4 6) is type («Type» 6)
    -- "The listing above; an empty colour, one store 24 00; free use ABCDEFGH, 9 stores"
    ∷ planned 12 (0x41 ∷ 0x42 ∷ []) is stores (at 0x3C 0x00 ∷ at 0x3D 0x42 ∷ at 0x3E 0x00 ∷ at 0x3C 0x41 ∷ [])
    ∷ planned 11 [] is stores (at 0x24 0x00 ∷ [])
    ∷ counted 17 (0x41 ∷ 0x42 ∷ 0x43 ∷ 0x44 ∷ 0x45 ∷ 0x46 ∷ 0x47 ∷ 0x48 ∷ []) is number 9
    -- "Field year: header of the single byte 77 hex, 4; empty header, 2; nothing read, 3"
    ∷ field_year (from_header (0x77 ∷ [])) is number 4
    ∷ field_year (from_header []) is number 2
    ∷ field_year nothing_read is number 3
    -- "Bytes C3 A9 80 read as é followed by `\x80`"
    ∷ text (escaped 32 (0xC3 ∷ 0xA9 ∷ 0x80 ∷ [])) is text (0xC3 ∷ 0xA9 ∷ 0x5C ∷ 0x78 ∷ 0x38 ∷ 0x30 ∷ [])
    ∷ []

abbrev pub CasesHold : Type 0
CasesHold = map (λ (c : Case). c.given) cases ≡ map (λ (c : Case). c.said) cases
