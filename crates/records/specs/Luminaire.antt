-- 01, "The records": the luminaire record, which is what the 18 fields of bank 1 read as; 02, F-8: which of its texts are whole.
-- Assumes nothing.
use Rattle.std.specs.Prelude.{◌≡◌, Bool, true, false, cond, ◌&&◌, ◌||◌, List, [], ◌∷◌, ◌++◌, ℕ, None, Option, Some, option_and_then, option_map, slice_get}
use Rattle.bus.specs.declared.part251.LuminaireFormat.{LuminaireFormat}
use Rattle.bus.specs.Number.{number}
use Rattle.bus.specs.Part251.{from_format}
use Rattle.bank.specs.declared.luminaire_write.NumberRule.{NumberRule}
use Rattle.bank.specs.declared.luminaire_write.NumberRule.TheVariants.{Year, Week, Power, MainsVoltage, LightOutput, Cri, Cct, LightDistributionType, LampCurrent}
use Rattle.bank.specs.declared.luminaire_write.LuminaireTextField.{LuminaireTextField}
use Rattle.bank.specs.declared.luminaire_write.LuminaireTextField.TheVariants.{LuminaireColour, LuminaireIdentification, LightDistribution, OemName, CustomerStockingNumber, FreeUse}
use Rattle.bank.specs.declared.luminaire_write.FieldKind.{FieldKind}
use Rattle.bank.specs.declared.luminaire_write.FieldKind.TheVariants.{LayoutId, Number, Text}
use Rattle.bank.specs.declared.luminaire_write.LuminaireField.{LuminaireField}
use Rattle.bank.specs.declared.part251.CctReading.TheVariants.{Part209Implemented}
use Rattle.bank.specs.Rules.{shows}
use Rattle.bank.specs.Readings.{cct_says}
use Rattle.bank.specs.Fields.{luminaire_fields, place_of, accepts_text}
use Rattle.bank.specs.Writable.{read_only, format_in}
use Rattle.records.specs.declared.attributes.LuminaireValue.{LuminaireValue}
use Rattle.records.specs.declared.fixed_text.FixedText.{FixedText}
use Rattle.records.specs.declared.memory_bank_parser.ParsedLuminaire.{ParsedLuminaire}
use Rattle.records.specs.Places.{field_at, is_there}
use Rattle.records.specs.Text.{until_zero, text_in, is_whole, SaysWhole}

-- "64 bytes (identification) or 32 (others)"
abbrev pub limit_for : LuminaireTextField → ℕ
limit_for LuminaireColour = 32
limit_for LuminaireIdentification = 64
limit_for LightDistribution = 32
limit_for OemName = 32
limit_for CustomerStockingNumber = 32
limit_for FreeUse = 32

-- "colour temperature .., while 65534 says part 209 is implemented": no other number says so
abbrev pub says209 : NumberRule → ℕ → Bool
says209 Year n = false
says209 Week n = false
says209 Power n = false
says209 MainsVoltage n = false
says209 LightOutput n = false
says209 Cri n = false
says209 Cct n = cct_says Part209Implemented n
says209 LightDistributionType n = false
says209 LampCurrent n = false

-- what a raw number says in a format: a value only where its rule shows it
abbrev pub value_in : NumberRule → LuminaireFormat → ℕ → LuminaireValue
value_in r v n = record { raw = n; value = cond (shows r v n) (Some n) None; part209_implemented = says209 r n }

-- what the record gives for a field, absent included
pub data Reading : Type 0 where
  an_id : Option ℕ → Reading
  a_number : Option LuminaireValue → Reading
  a_text : {limit : ℕ} → Option (FixedText limit) → Reading

-- the number of given bytes, in a format that has its field
abbrev pub number_read : NumberRule → Option LuminaireFormat → Option (List ℕ) → Option LuminaireValue
number_read r format bytes = option_and_then (λ v. option_map (λ bs. value_in r v (number bs)) bytes) format

abbrev pub text_read : (t : LuminaireTextField) → Option LuminaireFormat → Option (List ℕ) → Option (FixedText (limit_for t))
text_read t format bytes = text_in (limit_for t) (option_and_then (λ _. bytes) format)

-- what a field's own bytes read as; the format id needs no format
abbrev pub reading : FieldKind → Option LuminaireFormat → Option (List ℕ) → Reading
reading LayoutId format bytes = an_id (option_map number bytes)
reading (Number patch r) format bytes = a_number (number_read r format bytes)
reading (Text t) format bytes = a_text (text_read t format bytes)

-- a format, if it is this one or a later one
abbrev pub if_from : LuminaireFormat → Option LuminaireFormat → Option LuminaireFormat
if_from first format = option_and_then (λ v. cond (from_format first v) (Some v) None) format

-- a format, where it has the field
abbrev pub having : LuminaireField → Option LuminaireFormat → Option LuminaireFormat
having f format = if_from f.since format

module _ (start : ℕ) (bytes : List ℕ) where
  -- "The luminaire record is empty without a format id, and holds only the id if that isn't 3 to 5."
  abbrev pub format_at : Option LuminaireFormat
  format_at = format_in (option_map number (field_at start bytes 0x11 2))

  abbrev pub read_as : LuminaireField → Reading
  read_as f = reading f.kind (having f format_at) (field_at start bytes f.offset f.len)

  -- what the field at an index, 0 to 17, reads as
  abbrev pub reads : ℕ → Option Reading
  reads i = option_map read_as (slice_get luminaire_fields i)

-- a reading as a member of the record
abbrev id_of : Option Reading → Option ℕ
id_of (Some (an_id id)) = id
id_of (Some (a_number n)) = None
id_of (Some (a_text t)) = None
id_of None = None

abbrev pub number_of : Option Reading → Option LuminaireValue
number_of (Some (an_id id)) = None
number_of (Some (a_number n)) = n
number_of (Some (a_text t)) = None
number_of None = None

-- the field of a text
abbrev field_of : LuminaireTextField → Option LuminaireField
field_of t = option_and_then (slice_get luminaire_fields) (place_of t)

module _ (start : ℕ) (bytes : List ℕ) where
  abbrev id_at : ℕ → Option ℕ
  id_at i = id_of (reads start bytes i)

  abbrev number_at : ℕ → Option LuminaireValue
  number_at i = number_of (reads start bytes i)

  abbrev text_at : (t : LuminaireTextField) → Option (FixedText (limit_for t))
  text_at t = option_and_then (λ f. text_read t (having f (format_at start bytes)) (field_at start bytes f.offset f.len)) (field_of t)

  -- the record: its id and its numbers by the index of their fields, its texts by their names
  abbrev pub luminaire : ParsedLuminaire
  luminaire =
      record {
        content_format_id = id_at 0;
        year = number_at 1;
        week = number_at 2;
        nominal_input_power_w = number_at 3;
        power_at_minimum_w = number_at 4;
        nominal_min_ac_voltage_v = number_at 5;
        nominal_max_ac_voltage_v = number_at 6;
        nominal_light_output_lm = number_at 7;
        cri = number_at 8;
        cct_kelvin = number_at 9;
        light_distribution_type = number_at 10;
        luminaire_colour = text_at LuminaireColour;
        luminaire_identification = text_at LuminaireIdentification;
        light_distribution = text_at LightDistribution;
        oem_name = text_at OemName;
        customer_stocking_number = text_at CustomerStockingNumber;
        lamp_current_ma = number_at 16;
        free_use = text_at FreeUse;
      }

-- the members of the record, in their order
abbrev pub members_of : ParsedLuminaire → List Reading
members_of r =
    an_id r.content_format_id
    ∷ a_number r.year
    ∷ a_number r.week
    ∷ a_number r.nominal_input_power_w
    ∷ a_number r.power_at_minimum_w
    ∷ a_number r.nominal_min_ac_voltage_v
    ∷ a_number r.nominal_max_ac_voltage_v
    ∷ a_number r.nominal_light_output_lm
    ∷ a_number r.cri
    ∷ a_number r.cct_kelvin
    ∷ a_number r.light_distribution_type
    ∷ a_text r.luminaire_colour
    ∷ a_text r.luminaire_identification
    ∷ a_text r.light_distribution
    ∷ a_text r.oem_name
    ∷ a_text r.customer_stocking_number
    ∷ a_number r.lamp_current_ma
    ∷ a_text r.free_use
    ∷ []

-- The record is those 18 readings: its member at an index is what the field at that index reads as.
abbrev pub RecordIsItsReadings : Type 0
RecordIsItsReadings = (start : ℕ) (bytes : List ℕ) (i : ℕ) → slice_get (members_of (luminaire start bytes)) i ≡ reads start bytes i

-- whether a reading is present
abbrev pub is_present : Reading → Bool
is_present (an_id id) = is_there id
is_present (a_number n) = is_there n
is_present (a_text t) = is_there t

abbrev pub in_format : LuminaireField → Option LuminaireFormat → Bool
in_format f None = false
in_format f (Some v) = from_format f.since v

-- "holds only the id if that isn't 3 to 5", and "a field not wholly present is absent": a field is present in the record exactly
-- where it is wholly present in the bytes and, the id aside, in the bank's format.
abbrev pub EveryFieldShownExactly : Type 0
EveryFieldShownExactly =
    (start : ℕ) (bytes : List ℕ) (f : LuminaireField) →
    is_present (read_as start bytes f)
    ≡ ((read_only f.kind || in_format f (format_at start bytes)) && is_there (field_at start bytes f.offset f.len))

-- what the record has of a text that is wholly present, in a format that has its field
pub record TextSaysWhole (start : ℕ) (bytes : List ℕ) (f : LuminaireField) (t : LuminaireTextField) (region : List ℕ) : Type 0 where
  pub text : Option (FixedText (limit_for t))
  pub is : read_as start bytes f ≡ a_text text
  pub says : SaysWhole (limit_for t) (until_zero region) text

-- 02, F-8: "Each text in the luminaire record carries this yes or no": that of the bytes before its 00.
abbrev pub EveryTextSaysWhole : Type 0
EveryTextSaysWhole =
    (start : ℕ) (bytes : List ℕ) (f : LuminaireField) (t : LuminaireTextField) (region : List ℕ) →
    f.kind ≡ Text t → in_format f (format_at start bytes) ≡ true → field_at start bytes f.offset f.len ≡ Some region →
    TextSaysWhole start bytes f t region

-- whether a reading is a text that is whole
abbrev pub is_whole_text : Reading → Bool
is_whole_text (an_id id) = false
is_whole_text (a_number n) = false
is_whole_text (a_text t) = is_whole t

-- "no for an absent one"
abbrev pub AbsentNeverWhole : Type 0
AbsentNeverWhole = (r : Reading) → is_present r ≡ false → is_whole_text r ≡ false

-- "yes for every text that a plan accepts": whatever stands behind its end, in its field
abbrev pub AcceptedTextWhole : Type 0
AcceptedTextWhole =
    (i : ℕ) (f : LuminaireField) (t : LuminaireTextField) (text behind : List ℕ) →
    slice_get luminaire_fields i ≡ Some f → f.kind ≡ Text t → accepts_text f text ≡ true → until_zero behind ≡ [] →
    is_whole (text_in (limit_for t) (Some (text ++ behind))) ≡ true
