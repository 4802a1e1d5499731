-- 01, "The plan, where a write enters": the planned writes, their stages and their stores.
-- Assumes nothing.
use Rattle.std.specs.Prelude.{◌≡◌, Bool, true, false, cond, ◌&&◌, List, [], ◌∷◌, ◌++◌, map, ℕ, suc, ◌+◌, ◌*◌, ◌/◌, ◌%◌, ◌^◌, ◌≤◌, ◌<◌, eqb, leb, length, take, drop, None, Option, Some, option_map, slice_get}
use Rattle.std.specs.Str.{bytes_eq}
use Rattle.std.specs.Int.Count.{ones, count_trailing_zeros}
use Rattle.bus.specs.Number.{number, low_bytes}
use Rattle.bus.specs.Value.{bytes_at}
use Rattle.bank.specs.declared.luminaire_write.FieldKind.{FieldKind}
use Rattle.bank.specs.declared.luminaire_write.FieldKind.TheVariants.{LayoutId, Number, Text}
use Rattle.bank.specs.declared.luminaire_write.LuminaireField.{LuminaireField}
use Rattle.bank.specs.Fields.{luminaire_fields, field_end, is_text_kind}
use Rattle.records.specs.declared.luminaire_write.LuminaireNumbers.{LuminaireNumbers}
use Rattle.records.specs.declared.luminaire_write.FieldWrite.{FieldWrite}
use Rattle.records.specs.declared.luminaire_write.StagePart.{StagePart}
use Rattle.records.specs.declared.luminaire_write.StagePart.TheVariants.{Terminator, Whole, Tail, Head}
use Rattle.records.specs.declared.luminaire_write.WriteStage.{WriteStage}
use Rattle.records.specs.declared.luminaire_write.Store as store

-- "Mask bits 0 to 10 are the numbers in the order of `number_values` (001)"
abbrev pub number_values : LuminaireNumbers → List ℕ
number_values n =
    n.year
    ∷ n.week
    ∷ n.nominal_input_power_w
    ∷ n.power_at_minimum_w
    ∷ n.nominal_min_ac_voltage_v
    ∷ n.nominal_max_ac_voltage_v
    ∷ n.nominal_light_output_lm
    ∷ n.cri
    ∷ n.cct_kelvin
    ∷ n.light_distribution_type
    ∷ n.lamp_current_ma
    ∷ []

-- the place of a mask bit: how many digits stand below it
abbrev pub bit_place : ℕ → ℕ
bit_place patch = count_trailing_zeros 16 patch

abbrev pub is_set : ℕ → ℕ → Bool
is_set mask bit = eqb (mask / 2 ^ bit % 2) 1

-- the number of a mask bit, where the mask has it
unfoldable pub number_for : LuminaireNumbers → ℕ → Option ℕ
number_for n patch = cond (is_set n.patch_mask (bit_place patch)) (slice_get (number_values n) (bit_place patch)) None

-- the number that is wanted of a field
abbrev pub wanted_number : LuminaireNumbers → FieldKind → Option ℕ
wanted_number n LayoutId = None
wanted_number n (Number patch r) = number_for n patch
wanted_number n (Text t) = None

-- "at most one text with its field index": whether it is that of the field at a place
abbrev pub is_for : Option ℕ → ℕ → Bool
is_for (Some i) place = eqb i place
is_for None place = false

-- "it keeps the low bytes"
abbrev pub number_bytes : LuminaireNumbers → LuminaireField → Option (List ℕ)
number_bytes n f = option_map (low_bytes f.len) (wanted_number n f.kind)

-- "A text shorter than its field gets one 00 behind it; a text that fills it gets none." A longer one is cut.
abbrev pub terminated : LuminaireField → List ℕ → List ℕ
terminated f text = take f.len (text ++ 0 ∷ [])

-- the bytes that are to be written to a field
abbrev pub bytes_for : FieldKind → LuminaireNumbers → Option ℕ → List ℕ → ℕ → LuminaireField → Option (List ℕ)
bytes_for LayoutId n which text place f = None
bytes_for (Number patch r) n which text place f = number_bytes n f
bytes_for (Text t) n which text place f = cond (is_for which place) (Some (terminated f text)) None

-- a write: its field, by its index too, and its bytes
pub record Write : Type 0 where
  pub index : ℕ
  pub field : LuminaireField
  pub bytes : List ℕ

abbrev pub written : ℕ → LuminaireField → List ℕ → Write
written place f bytes = record { index = place; field = f; bytes = bytes }

abbrev pub write_of : ℕ → LuminaireField → Option (List ℕ) → List Write
write_of place f None = []
write_of place f (Some bytes) = written place f bytes ∷ []

-- what the fields give, one after the other, each told its place
abbrev pub gather : {A : Type 0} → (ℕ → LuminaireField → List A) → List LuminaireField → List A
gather g [] = []
gather g (f ∷ fs) = g 0 f ++ gather (λ i. g (suc i)) fs

abbrev pub flat : {A B : Type 0} → (A → List B) → List A → List B
flat g [] = []
flat g (x ∷ xs) = g x ++ flat g xs

module _ (n : LuminaireNumbers) (which : Option ℕ) (text : List ℕ) where
  abbrev pub writes_at : ℕ → LuminaireField → List Write
  writes_at place f = write_of place f (bytes_for f.kind n which text place f)

  -- `planned_writes` (001): by rising offset, without a check of any value
  unfoldable pub planned_writes : List Write
  planned_writes = gather writes_at luminaire_fields

-- a write as it is answered: its field's index, and how many bytes it has
abbrev pub field_write : Write → FieldWrite
field_write w = record { field = w.index; len = length w.bytes }

abbrev pub field_writes : List Write → List FieldWrite
field_writes ws = map field_write ws

-- the bytes of the writes, one behind the other
abbrev pub all_bytes : List Write → List ℕ
all_bytes ws = flat (λ (w : Write). w.bytes) ws

-- a write's end, where there is such a field
abbrev pub end_of : FieldWrite → Option ℕ
end_of w = option_map (λ f. f.offset + w.len) (slice_get luminaire_fields w.field)

-- whether bytes are the same
abbrev pub same : List ℕ → List ℕ → Bool
same = bytes_eq

abbrev same_of : Option (List ℕ) → Option (List ℕ) → Bool
same_of None ys = false
same_of (Some xs) None = false
same_of (Some xs) (Some ys) = same xs ys

abbrev holds_at : Option LuminaireField → ℕ → List ℕ → List ℕ → Bool
holds_at None n bytes bank = false
holds_at (Some f) n bytes bank = same_of (bytes_at f.offset n bank) (bytes_at 0 n bytes)

-- a bank holds a write that is wholly present where it has the write's bytes at the field's offset
unfoldable pub held_by : FieldWrite → List ℕ → List ℕ → Bool
held_by w bytes bank = holds_at (slice_get luminaire_fields w.field) w.len bytes bank

abbrev stage : ℕ → ℕ → StagePart → WriteStage
stage place offset part = record { field = place; offset = offset; part = part }

-- "a text write of two or more bytes"
abbrev pub is_staged : FieldKind → ℕ → Bool
is_staged kind n = is_text_kind kind && leb 2 n

-- "Stages: a text write of two or more bytes stores 00 at its start, then bytes two to last, then byte one. Any other
-- write is one stage."
abbrev pub stages_of : ℕ → LuminaireField → ℕ → List WriteStage
stages_of place f n =
    cond (is_staged f.kind n)
    (stage place f.offset Terminator ∷ stage place (f.offset + 1) Tail ∷ stage place f.offset Head ∷ [])
    (stage place f.offset Whole ∷ [])

abbrev stages_in : Option LuminaireField → FieldWrite → List WriteStage
stages_in None w = []
stages_in (Some f) w = stages_of w.field f w.len

abbrev pub stages_at : FieldWrite → List WriteStage
stages_at w = stages_in (slice_get luminaire_fields w.field) w

-- which bytes a stage stores: the first of a text a 00 of its own, any other a part of its write's
abbrev pub part_of : StagePart → List ℕ → List ℕ
part_of Terminator bytes = 0 ∷ []
part_of Whole bytes = bytes
part_of Tail bytes = drop 1 bytes
part_of Head bytes = take 1 bytes

-- "a list of stores, each an offset and a value"
abbrev pub Store : Type 0
Store = store.Store

-- "each stage cut into single bytes from its first"
abbrev pub single_bytes : ℕ → List ℕ → List Store
single_bytes o [] = []
single_bytes o (b ∷ bs) = record { offset = o; value = b } ∷ single_bytes (suc o) bs

abbrev pub stage_stores : List ℕ → WriteStage → List Store
stage_stores bytes s = single_bytes s.offset (part_of s.part bytes)

-- "each write by its `FieldWrite::stages`"
abbrev pub write_stores : Write → List Store
write_stores w = flat (stage_stores w.bytes) (stages_of w.index w.field (length w.bytes))

abbrev pub offsets_of : List Store → List ℕ
offsets_of ss = map (λ (s : Store). s.offset) ss

abbrev pub values_of : List Store → List ℕ
values_of ss = map (λ (s : Store). s.value) ss

-- "A field's stores are those of its write."
abbrev pub stores_at : LuminaireNumbers → Option ℕ → List ℕ → ℕ → LuminaireField → List Store
stores_at n which text place f = flat write_stores (writes_at n which text place f)

-- "An accepted plan is `planned_writes`, each write by its `FieldWrite::stages`, each stage cut into single bytes from its
-- first: a list of stores"
unfoldable pub plan_stores : LuminaireNumbers → Option ℕ → List ℕ → List Store
plan_stores n which text = flat write_stores (planned_writes n which text)

-- the mask bit of a number field
abbrev bit_of : FieldKind → List ℕ
bit_of LayoutId = []
bit_of (Number patch r) = bit_place patch ∷ []
bit_of (Text t) = []

-- "Mask bits 0 to 10 are the numbers in the order of `number_values`": so they come in the table too.
abbrev pub EveryNumberHasItsBit : Type 0
EveryNumberHasItsBit =
    flat (λ (f : LuminaireField). bit_of f.kind) luminaire_fields ≡ 0 ∷ 1 ∷ 2 ∷ 3 ∷ 4 ∷ 5 ∷ 6 ∷ 7 ∷ 8 ∷ 9 ∷ 10 ∷ []

-- the write of a number
abbrev pub if_number : FieldKind → Write → List Write
if_number LayoutId w = []
if_number (Number patch r) w = w ∷ []
if_number (Text t) w = []

abbrev pub number_writes : List Write → List Write
number_writes ws = flat (λ (w : Write). if_number w.field.kind w) ws

-- "The number of wanted numbers is the count of set mask bits": as many number writes are planned, where no other bit is set.
abbrev pub EveryWantedNumberPlanned : Type 0
EveryWantedNumberPlanned =
    (n : LuminaireNumbers) (which : Option ℕ) (text : List ℕ) →
    n.patch_mask ≤ 2047 → length (number_writes (planned_writes n which text)) ≡ ones n.patch_mask

-- "it keeps the low bytes": as many as the field has, high byte first
abbrev pub EveryNumberKept : Type 0
EveryNumberKept =
    (n : LuminaireNumbers) (f : LuminaireField) (value : ℕ) (bytes : List ℕ) →
    wanted_number n f.kind ≡ Some value → number_bytes n f ≡ Some bytes →
    (length bytes ≡ f.len) × (number bytes ≡ value % 2 ^ (8 * f.len))

-- the write of a text
abbrev pub if_text : FieldKind → Write → List Write
if_text LayoutId w = []
if_text (Number patch r) w = []
if_text (Text t) w = w ∷ []

abbrev pub text_writes : List Write → List Write
text_writes ws = flat (λ (w : Write). if_text w.field.kind w) ws

-- "at most one text with its field index": the write of the text that is wanted, and of no other
pub record TextPlanned (n : LuminaireNumbers) (text : List ℕ) : Type 0 where
  pub wanted : (place : ℕ) (f : LuminaireField) → slice_get luminaire_fields place ≡ Some f → is_text_kind f.kind ≡ true
      → text_writes (planned_writes n (Some place) text) ≡ written place f (terminated f text) ∷ []
  pub other : (which : Option ℕ) → ((place : ℕ) (f : LuminaireField) → slice_get luminaire_fields place ≡ Some f → is_text_kind f.kind ≡ true → is_for which place ≡ false)
      → text_writes (planned_writes n which text) ≡ []

abbrev pub EveryWantedTextPlanned : Type 0
EveryWantedTextPlanned = (n : LuminaireNumbers) (text : List ℕ) → TextPlanned n text

-- a property of each element
abbrev pub Each : {A : Type 0} → (A → Type 0) → List A → Type 0
Each P [] = Unit {0}
Each P (x ∷ xs) = P x × Each P xs

abbrev pub InField : LuminaireField → Store → Type 0
InField f s = (f.offset ≤ s.offset) × (s.offset < field_end f)

-- each within its own field
pub record InPlace (w : Write) : Type 0 where
  pub of_table : slice_get luminaire_fields w.index ≡ Some w.field
  pub fits : length w.bytes ≤ w.field.len
  pub inside : Each (InField w.field) (write_stores w)

-- by rising offset, each field behind the end of the one before
abbrev pub Rising : ℕ → List Write → Type 0
Rising end [] = Unit {0}
Rising end (w ∷ ws) = (end ≤ w.field.offset) × Rising (field_end w.field) ws

-- Planned writes come by rising offset, without an overlap, and the stores of each stand in its own field.
pub record InOrder (ws : List Write) : Type 0 where
  pub in_place : Each InPlace ws
  pub rising : Rising 0 ws

abbrev pub EveryPlanInOrder : Type 0
EveryPlanInOrder = (n : LuminaireNumbers) (which : Option ℕ) (text : List ℕ) → InOrder (planned_writes n which text)

-- A text of two or more bytes is emptied first and gets its first byte last; any other write is stored from its first byte on.
pub record Staged (place : ℕ) (f : LuminaireField) : Type 0 where
  pub text : (x y : ℕ) (ys : List ℕ) → is_text_kind f.kind ≡ true →
      write_stores (written place f (x ∷ y ∷ ys))
      ≡ record { offset = f.offset; value = 0 } ∷ single_bytes (f.offset + 1) (y ∷ ys) ++ record { offset = f.offset; value = x } ∷ []
  pub other : (bytes : List ℕ) → is_staged f.kind (length bytes) ≡ false → write_stores (written place f bytes) ≡ single_bytes f.offset bytes

abbrev pub EveryWriteStaged : Type 0
EveryWriteStaged = (place : ℕ) (f : LuminaireField) → Staged place f
