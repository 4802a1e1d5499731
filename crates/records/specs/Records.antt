-- 01, "The records": each record is a list of places, by the tables of IEC 62386-102 and of DiiA 252 and 253; 02, F-5: each
-- reading has the time since which it has been unavailable.
-- Assumes nothing.
use Rattle.std.specs.Prelude.{◌≡◌, Bool, true, false, cond, List, [], ◌∷◌, ◌++◌, map, ℕ, suc, ◌+◌, drop, Option, ℤ, option_and_then, option_map, unwrap_or, None, Some, is_some, is_none, slice_get}
use Rattle.std.specs.List.{list_all}
use Rattle.bus.specs.declared.ValueWidth.{ValueWidth}
use Rattle.bus.specs.declared.ValueWidth.TheVariants.{U8, U16, U24, U32, U48}
use Rattle.bus.specs.declared.layout.BankField.{BankField}
use Rattle.bus.specs.declared.layout.BankMap.{BankMap}
use Rattle.bus.specs.declared.layout.BankMap.TheVariants.{Energy, GearDiagnostics, SourceDiagnostics, Maintenance}
use Rattle.bus.specs.Width.{signed}
use Rattle.bus.specs.Maps.{fields}
use Rattle.records.specs.declared.memory_bank_parser.ParsedMemoryIdentity.{ParsedMemoryIdentity}
use Rattle.records.specs.declared.memory_bank_parser.ParsedMemoryProfile.{ParsedMemoryProfile}
use Rattle.records.specs.declared.memory_bank_parser.ParsedBusUnit.{ParsedBusUnit}
use Rattle.records.specs.declared.memory_bank_parser.ParsedEnergyBank.{ParsedEnergyBank}
use Rattle.records.specs.declared.memory_bank_parser.ParsedCondition.{ParsedCondition}
use Rattle.records.specs.declared.memory_bank_parser.ParsedGearDiagnostics.{ParsedGearDiagnostics}
use Rattle.records.specs.declared.memory_bank_parser.ParsedSourceDiagnostics.{ParsedSourceDiagnostics}
use Rattle.records.specs.declared.memory_bank_parser.ParsedLuminaireMaintenance.{ParsedLuminaireMaintenance}
use Rattle.records.specs.Places.{byte_at, number_at, reading_at, scale_at}
use Rattle.records.specs.declared.attributes.BankReading.{BankReading}
use Rattle.records.specs.Since.{dated, reading_after, Read, last_reading}

-- the kinds of place without a time, of given bytes and their start offset
module _ (start : ℕ) (bytes : List ℕ) where
  abbrev byte : ℕ → Option ℕ
  byte o = (byte_at start bytes o)

  abbrev number : ℕ → ℕ → Option ℕ
  number o n = (number_at start bytes o n)

  abbrev scale : ℕ → Option ℤ
  scale o = (scale_at start bytes o)

  -- bank 0 (IEC 62386-102 §9.10.6, table 9)
  abbrev pub bank0_identity : ParsedMemoryIdentity
  bank0_identity =
      record {
        last_memory_bank = byte 2;
        gtin = number 0x03 6;
        firmware_version_major = byte 9;
        firmware_version_minor = byte 10;
        identification_number = number 0x0B 8;
        hardware_version_major = byte 19;
        hardware_version_minor = byte 20;
        dali_101_version = byte 21;
        dali_102_version = byte 22;
        dali_103_version = byte 23;
        logical_control_device_units = byte 24;
        logical_control_gear_units = byte 25;
        logical_control_gear_index = byte 26;
      }

  -- the head of bank 1
  abbrev pub bank1_profile : ParsedMemoryProfile
  bank1_profile = record { bank1_lock_byte = byte 2; oem_gtin = number 3 6; oem_identification_number = number 9 8 }

  -- the end of bank 0 (DiiA 098bp §7.2.7)
  abbrev pub bank0_bus_unit : ParsedBusUnit
  bank0_bus_unit = record { configuration = byte 0x1B; implemented_parts = byte 0x1C }

-- 02, F-5: "the caller gives that and the earlier record, if any"; of an absent one every reading is absent
module _ (start : ℕ) (bytes : List ℕ) (now_ms : ℕ) where
  -- the reading at an offset and a width, after that member of the earlier record
  abbrev reading : {R : Type 0} → Option R → ℕ → ValueWidth → (R → Option BankReading) → Option BankReading
  reading earlier o w member = reading_after start bytes now_ms (option_and_then member earlier) o w

  -- a flag, and behind it its counter
  abbrev pub condition : {R : Type 0} → Option R → ℕ → (R → ParsedCondition) → ParsedCondition
  condition earlier o member =
      record { flag = reading earlier o U8 (λ e. (member e).flag); counter = reading earlier (o + 1) U8 (λ e. (member e).counter) }

  -- banks 202 to 204 (DiiA 252 §9.2.9 to §9.2.11)
  abbrev pub energy_bank : Option ParsedEnergyBank → ParsedEnergyBank
  energy_bank earlier =
      record {
        bank_version = byte start bytes 0x03;
        energy_scale = scale start bytes 0x04;
        energy = reading earlier 0x05 U48 (λ e. e.energy);
        power_scale = scale start bytes 0x0B;
        power = reading earlier 0x0C U32 (λ e. e.power);
      }

  -- bank 205 (DiiA 253 §9.2.16)
  abbrev pub gear_diagnostics : Option ParsedGearDiagnostics → ParsedGearDiagnostics
  gear_diagnostics earlier =
      record {
        bank_version = byte start bytes 0x03;
        operating_time_s = reading earlier 0x04 U32 (λ e. e.operating_time_s);
        start_counter = reading earlier 0x08 U24 (λ e. e.start_counter);
        supply_voltage_decivolt = reading earlier 0x0B U16 (λ e. e.supply_voltage_decivolt);
        supply_frequency_hz = reading earlier 0x0D U8 (λ e. e.supply_frequency_hz);
        power_factor_centi = reading earlier 0x0E U8 (λ e. e.power_factor_centi);
        overall_failure = condition earlier 0x0F (λ e. e.overall_failure);
        undervoltage = condition earlier 0x11 (λ e. e.undervoltage);
        overvoltage = condition earlier 0x13 (λ e. e.overvoltage);
        output_power_limitation = condition earlier 0x15 (λ e. e.output_power_limitation);
        thermal_derating = condition earlier 0x17 (λ e. e.thermal_derating);
        thermal_shutdown = condition earlier 0x19 (λ e. e.thermal_shutdown);
        temperature_offset60 = reading earlier 0x1B U8 (λ e. e.temperature_offset60);
        output_current_percent = reading earlier 0x1C U8 (λ e. e.output_current_percent);
      }

  -- bank 206 (DiiA 253 §9.2.17)
  abbrev pub source_diagnostics : Option ParsedSourceDiagnostics → ParsedSourceDiagnostics
  source_diagnostics earlier =
      record {
        bank_version = byte start bytes 0x03;
        start_counter_resettable = reading earlier 0x04 U24 (λ e. e.start_counter_resettable);
        start_counter = reading earlier 0x07 U24 (λ e. e.start_counter);
        on_time_resettable_s = reading earlier 0x0A U32 (λ e. e.on_time_resettable_s);
        on_time_s = reading earlier 0x0E U32 (λ e. e.on_time_s);
        voltage_decivolt = reading earlier 0x12 U16 (λ e. e.voltage_decivolt);
        current_milliamp = reading earlier 0x14 U16 (λ e. e.current_milliamp);
        overall_failure = condition earlier 0x16 (λ e. e.overall_failure);
        short_circuit = condition earlier 0x18 (λ e. e.short_circuit);
        open_circuit = condition earlier 0x1A (λ e. e.open_circuit);
        thermal_derating = condition earlier 0x1C (λ e. e.thermal_derating);
        thermal_shutdown = condition earlier 0x1E (λ e. e.thermal_shutdown);
        temperature_offset60 = reading earlier 0x20 U8 (λ e. e.temperature_offset60);
      }

  -- bank 207 (DiiA 253 §9.2.18)
  abbrev pub luminaire_maintenance : Option ParsedLuminaireMaintenance → ParsedLuminaireMaintenance
  luminaire_maintenance earlier =
      record {
        bank_version = byte start bytes 0x03;
        rated_life_kilohours = reading earlier 0x04 U8 (λ e. e.rated_life_kilohours);
        reference_temperature_offset60 = reading earlier 0x05 U8 (λ e. e.reference_temperature_offset60);
        rated_starts_hundreds = reading earlier 0x06 U16 (λ e. e.rated_starts_hundreds);
      }

-- what a member of a record says: a raw byte, a scale or a reading
pub data Said : Type 0 where
  a_byte : Option ℕ → Said
  a_scale : Option ℤ → Said
  a_reading : Option BankReading → Said

-- the members of each record, in their order
abbrev of_energy_bank : ParsedEnergyBank → List Said
of_energy_bank r =
    a_byte r.bank_version
    ∷ a_scale r.energy_scale ∷ a_reading r.energy ∷ a_scale r.power_scale ∷ a_reading r.power ∷ []

abbrev of_condition : ParsedCondition → List Said
of_condition c = a_reading c.flag ∷ a_reading c.counter ∷ []

abbrev of_gear_diagnostics : ParsedGearDiagnostics → List Said
of_gear_diagnostics r =
    (a_byte r.bank_version
    ∷ a_reading r.operating_time_s ∷ a_reading r.start_counter ∷ a_reading r.supply_voltage_decivolt
    ∷ a_reading r.supply_frequency_hz ∷ a_reading r.power_factor_centi ∷ [])
    ++ of_condition r.overall_failure ++ of_condition r.undervoltage ++ of_condition r.overvoltage
    ++ of_condition r.output_power_limitation ++ of_condition r.thermal_derating ++ of_condition r.thermal_shutdown
    ++ (a_reading r.temperature_offset60 ∷ a_reading r.output_current_percent ∷ [])

abbrev of_source_diagnostics : ParsedSourceDiagnostics → List Said
of_source_diagnostics r =
    (a_byte r.bank_version
    ∷ a_reading r.start_counter_resettable ∷ a_reading r.start_counter ∷ a_reading r.on_time_resettable_s
    ∷ a_reading r.on_time_s ∷ a_reading r.voltage_decivolt ∷ a_reading r.current_milliamp ∷ [])
    ++ of_condition r.overall_failure ++ of_condition r.short_circuit ++ of_condition r.open_circuit
    ++ of_condition r.thermal_derating ++ of_condition r.thermal_shutdown
    ++ (a_reading r.temperature_offset60 ∷ [])

abbrev of_maintenance : ParsedLuminaireMaintenance → List Said
of_maintenance r =
    a_byte r.bank_version
    ∷ a_reading r.rated_life_kilohours ∷ a_reading r.reference_temperature_offset60
    ∷ a_reading r.rated_starts_hundreds ∷ []

module _ (start : ℕ) (bytes : List ℕ) where
  -- what a field of a map says, its time aside: a signed one is a scale
  abbrev pub said_by : BankField → Said
  said_by f =
      cond (signed f.width) (a_scale (scale_at start bytes f.offset))
      (a_reading (reading_at start bytes f.offset f.width))

  -- behind the head of a bank comes its version, a raw byte, and then what its map has
  abbrev pub by_map : BankMap → List Said
  by_map m = a_byte (byte_at start bytes 0x03) ∷ map said_by (drop 4 (fields m))

-- the earlier record of a bank, if there is one
pub data Earlier : Type 0 where
  energy : Option ParsedEnergyBank → Earlier
  gear : Option ParsedGearDiagnostics → Earlier
  source : Option ParsedSourceDiagnostics → Earlier
  maintenance : Option ParsedLuminaireMaintenance → Earlier

abbrev pub map_for : Earlier → BankMap
map_for (energy e) = Energy
map_for (gear e) = GearDiagnostics
map_for (source e) = SourceDiagnostics
map_for (maintenance e) = Maintenance

-- its members; none if there is no record
abbrev pub members_before : Earlier → List Said
members_before (energy e) = unwrap_or (option_map of_energy_bank e) []
members_before (gear e) = unwrap_or (option_map of_gear_diagnostics e) []
members_before (source e) = unwrap_or (option_map of_source_diagnostics e) []
members_before (maintenance e) = unwrap_or (option_map of_maintenance e) []

-- the members of the record that its bank's parser makes after it
module _ (start : ℕ) (bytes : List ℕ) (now_ms : ℕ) where
  abbrev pub members_after : Earlier → List Said
  members_after (energy e) = of_energy_bank (energy_bank start bytes now_ms e)
  members_after (gear e) = of_gear_diagnostics (gear_diagnostics start bytes now_ms e)
  members_after (source e) = of_source_diagnostics (source_diagnostics start bytes now_ms e)
  members_after (maintenance e) = of_maintenance (luminaire_maintenance start bytes now_ms e)

-- the reading that a member is, if it is one
abbrev pub reading_in : Said → Option BankReading
reading_in (a_byte b) = None
reading_in (a_scale z) = None
reading_in (a_reading r) = r

-- members, each reading dated by the earlier member in its place
module _ (now_ms : ℕ) where
  abbrev pub dated_said : Option BankReading → Said → Said
  dated_said earlier (a_byte b) = a_byte b
  dated_said earlier (a_scale z) = a_scale z
  dated_said earlier (a_reading r) = a_reading (option_map (dated now_ms earlier) r)

  unfoldable pub dated_by : List Said → List Said → List Said
  dated_by earlier [] = []
  dated_by [] (m ∷ ms) = dated_said None m ∷ dated_by [] ms
  dated_by (e ∷ es) (m ∷ ms) = dated_said (reading_in e) m ∷ dated_by es ms

-- Each record of banks 202 to 207 is, member by member, what the fields of its bank's map say, each reading dated by the
-- same member of the earlier record.
abbrev pub EveryRecordFollowsItsMap : Type 0
EveryRecordFollowsItsMap =
    (start : ℕ) (bytes : List ℕ) (now_ms : ℕ) (e : Earlier) →
    members_after start bytes now_ms e ≡ dated_by now_ms (members_before e) (by_map start bytes (map_for e))

-- An absent earlier record is the same as one in which every reading is absent.
abbrev pub no_reading : Said → Bool
no_reading m = is_none (reading_in m)

abbrev pub AbsentAsEmpty : Type 0
AbsentAsEmpty =
    (start : ℕ) (bytes : List ℕ) (now_ms : ℕ) (e empty : Earlier) → map_for e ≡ map_for empty →
    members_before e ≡ [] → list_all no_reading (members_before empty) ≡ true →
    members_after start bytes now_ms e ≡ members_after start bytes now_ms empty

-- A reading of any record has a time exactly where it is unavailable.
abbrev pub TimeWhereUnavailable : Type 0
TimeWhereUnavailable =
    (start : ℕ) (bytes : List ℕ) (now_ms : ℕ) (e : Earlier) (i : ℕ) (r : BankReading) →
    slice_get (members_after start bytes now_ms e) i ≡ Some (a_reading (Some r)) → is_some r.tmask_since_ms ≡ r.temporarily_unavailable

-- Whatever times are given, every other member is what it was before F-5, without any: in a record that is what its map says.
abbrev pub timeless : BankReading → BankReading
timeless r = record r { tmask_since_ms = None }

abbrev pub timeless_said : Said → Said
timeless_said (a_byte b) = a_byte b
timeless_said (a_scale z) = a_scale z
timeless_said (a_reading r) = a_reading (option_map timeless r)

pub record AsBefore (start : ℕ) (bytes : List ℕ) (now_ms : ℕ) : Type 0 where
  pub in_record : (e : Earlier) → map timeless_said (members_after start bytes now_ms e) ≡ by_map start bytes (map_for e)
  pub in_place :
      (e : Option BankReading) (o : ℕ) (w : ValueWidth) →
      option_map timeless (reading_after start bytes now_ms e o w) ≡ reading_at start bytes o w

abbrev pub OthersAsBefore : Type 0
OthersAsBefore = (start : ℕ) (bytes : List ℕ) (now_ms : ℕ) → AsBefore start bytes now_ms

-- the record of the bank after an earlier one, and after a list of reads, each after the one before it
abbrev pub record_after : Read → Earlier → Earlier
record_after r (energy e) = energy (Some (energy_bank r.start r.bytes r.now_ms e))
record_after r (gear e) = gear (Some (gear_diagnostics r.start r.bytes r.now_ms e))
record_after r (source e) = source (Some (source_diagnostics r.start r.bytes r.now_ms e))
record_after r (maintenance e) = maintenance (Some (luminaire_maintenance r.start r.bytes r.now_ms e))

unfoldable pub last_record : Earlier → List Read → Earlier
last_record e [] = e
last_record e (r ∷ rs) = last_record (record_after r e) rs

-- the reading at an index of the map behind the head: the version stands before them
abbrev pub reading_in_record : Earlier → ℕ → Option BankReading
reading_in_record e i = option_and_then reading_in (slice_get (members_before e) (suc i))

-- Over any list of reads of a bank, each reading of the last record is the last reading of its place over the same reads; so
-- `SinceFirst` is said of it too.
abbrev pub EveryRecordReadsItsPlaces : Type 0
EveryRecordReadsItsPlaces =
    (e : Earlier) (rs : List Read) (i : ℕ) (f : BankField) → members_before e ≡ [] →
    slice_get (drop 4 (fields (map_for e))) i ≡ Some f → signed f.width ≡ false →
    reading_in_record (last_record e rs) i ≡ last_reading f.offset f.width None rs
