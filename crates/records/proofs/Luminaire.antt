-- Laws of the luminaire record, and its theorems.
-- Assumes nothing.
use Rattle.std.specs.Prelude.{None, Option, Some, option_map, slice_get}
use mathlib.Core.Path.{◌≡◌, refl}
use mathlib.Core.Bool.{Bool, true, false, cond, ◌&&◌, ◌||◌}
use mathlib.Core.List.{List, [], ◌∷◌, map}
use Prim.Native.Nat.{ℕ, zero, suc}
use Rattle.bus.specs.declared.part251.LuminaireFormat.{LuminaireFormat}
use Rattle.bus.specs.declared.part251.LuminaireFormat.TheVariants.{V3, V4, V5}
use Rattle.bus.specs.Part251.{from_format}
use Rattle.bank.specs.declared.luminaire_write.FieldKind.{FieldKind}
use Rattle.bank.specs.declared.luminaire_write.FieldKind.TheVariants.{LayoutId, Number, Text}
use Rattle.bank.specs.declared.luminaire_write.LuminaireField.{LuminaireField}
use Rattle.bus.specs.Number.{number}
use Rattle.bank.specs.Fields.{luminaire_fields, place_of}
use Rattle.bank.specs.Writable.{read_only}
use Rattle.records.specs.Places.{field_at, is_there}
use Rattle.records.specs.Luminaire.{reading, if_from, having, format_at, read_as, luminaire, RecordIsItsReadings, is_present, in_format, EveryFieldShownExactly}

-- every format has what format 3 has
pub from_first : (format : Option LuminaireFormat) → if_from V3 format ≡ format
from_first None = refl
from_first (Some V3) = refl
from_first (Some V4) = refl
from_first (Some V5) = refl

-- an element of a list's image
pub element_of_map : {A B : Type 0} (g : A → B) (xs : List A) (i : ℕ) → slice_get (map g xs) i ≡ option_map g (slice_get xs i)
element_of_map g [] i = refl
element_of_map g (x ∷ xs) zero = refl
element_of_map g (x ∷ xs) (suc i) = element_of_map g xs i

pub record_is_its_readings : RecordIsItsReadings
unfolding luminaire_fields place_of
record_is_its_readings start bytes i = element_of_map (read_as start bytes) luminaire_fields i

-- a field is shown where its format has it, if it is there
shown : (f : LuminaireField) (kind : FieldKind) (format : Option LuminaireFormat) (bytes : Option (List ℕ))
    → is_present (reading kind (having f format) bytes) ≡ ((read_only kind || in_format f format) && is_there bytes)
shown f LayoutId format None = refl
shown f LayoutId format (Some bs) = refl
shown f (Number patch r) None bytes = refl
shown f (Number patch r) (Some v) bytes = by (from_format f.since v) bytes
  where
    by : (has : Bool) (bytes : Option (List ℕ)) → is_present (reading (Number patch r) (cond has (Some v) None) bytes) ≡ (has && is_there bytes)
    by true None = refl
    by true (Some bs) = refl
    by false bytes = refl
shown f (Text t) None bytes = refl
shown f (Text t) (Some v) bytes = by (from_format f.since v) bytes
  where
    by : (has : Bool) (bytes : Option (List ℕ)) → is_present (reading (Text t) (cond has (Some v) None) bytes) ≡ (has && is_there bytes)
    by true None = refl
    by true (Some bs) = refl
    by false bytes = refl

pub every_field_shown_exactly : EveryFieldShownExactly
every_field_shown_exactly start bytes f = shown f f.kind (format_at start bytes) (field_at start bytes f.offset f.len)

-- without a format the record holds the id alone
pub id_alone : (start : ℕ) (bytes : List ℕ) → format_at start bytes ≡ None →
    record {
      content_format_id = option_map number (field_at start bytes 0x11 2);
      year = None;
      week = None;
      nominal_input_power_w = None;
      power_at_minimum_w = None;
      nominal_min_ac_voltage_v = None;
      nominal_max_ac_voltage_v = None;
      nominal_light_output_lm = None;
      cri = None;
      cct_kelvin = None;
      light_distribution_type = None;
      luminaire_colour = None;
      luminaire_identification = None;
      light_distribution = None;
      oem_name = None;
      customer_stocking_number = None;
      lamp_current_ma = None;
      free_use = None;
    } ≡ luminaire start bytes
unfolding luminaire_fields place_of
id_alone start bytes e = rw e
