-- 01, "The plan, where a write enters": whether a plan is refused, and what it answers.
-- Assumes nothing.
use Rattle.std.specs.Prelude.{◌≡◌, Bool, true, false, not, cond, ◌||◌, List, [], ◌∷◌, ◌++◌, ℕ, ◌≤◌, ◌<◌, ltb, length, drop, Err, None, Ok, Option, Result, Some, slice_get}
use Rattle.bus.specs.declared.part251.LuminaireFormat.{LuminaireFormat}
use Rattle.bus.specs.Value.{laid_into}
use Rattle.bank.specs.declared.refusal.Refusal.{Refusal}
use Rattle.bank.specs.declared.refusal.Refusal.TheVariants.{NumberNotAccepted, UnknownMaskBits, UnknownField, SliceTooShort, ByteNotPrintable}
use Rattle.bank.specs.declared.luminaire_write.LuminaireField.{LuminaireField}
use Rattle.bank.specs.declared.luminaire_write.Bank1Layout.{Bank1Layout}
use Rattle.bank.specs.Refusal.{Check, ◌when◌, first_of, checked}
use Rattle.bank.specs.Fields.{luminaire_fields, accepts_number, accepts_text}
use Rattle.bank.specs.Writable.{format_in, write_checks, text_checks, FirstOutside}
use Rattle.records.specs.declared.luminaire_write.Plan.{Plan}
use Rattle.records.specs.Writes.{wanted_number, is_for, gather, Store, Each, offsets_of, values_of, plan_stores}

-- 7: "number not accepted", in a format, without which 4 has refused it
abbrev pub rejects : Option LuminaireFormat → LuminaireField → ℕ → Bool
rejects None f value = false
rejects (Some v) f value = not (accepts_number f v value)

-- "refusals 1 to 6 in that order, then 7"
abbrev pub number_checks : Bank1Layout → LuminaireField → ℕ → List Check
number_checks l f value = write_checks l f ++ NumberNotAccepted when rejects (format_in l.content_format_id) f value ∷ []

-- "or 8"; 02, F-1: "Both stand where 8 stood, in the order 8, 15, 16."
abbrev pub write_text_checks : Bank1Layout → LuminaireField → List ℕ → List Check
write_text_checks l f text = write_checks l f ++ text_checks f text

abbrev pub if_wanted : Option ℕ → (ℕ → List Check) → List Check
if_wanted None checks = []
if_wanted (Some value) checks = checks value

-- "a number before a text at the same offset"
abbrev pub field_checks : Plan → List ℕ → ℕ → LuminaireField → List Check
field_checks p text place f =
    if_wanted (wanted_number p.numbers f.kind) (number_checks p.layout f)
    ++ cond (is_for p.text_field place) (write_text_checks p.layout f text) []

-- 9: "mask bits 11 to 15"
abbrev pub unknown_bits : Plan → Check
unknown_bits p = UnknownMaskBits when ltb 2047 p.numbers.patch_mask

abbrev pub index_over : Option ℕ → Bool
index_over (Some i) = ltb 17 i
index_over None = false

-- 10: "field index over 17"
abbrev pub unknown_field : Plan → Check
unknown_field p = UnknownField when index_over p.text_field

-- "Checks: refusal 9, then 10, then each wanted field by rising offset"
unfoldable pub plan_checks : Plan → List ℕ → List Check
plan_checks p text = unknown_bits p ∷ unknown_field p ∷ gather (field_checks p text) luminaire_fields

-- the stores of an accepted plan
abbrev pub stores_of : Plan → List ℕ → List Store
stores_of p text = plan_stores p.numbers p.text_field text

-- 13: "either store slice shorter than the list"
abbrev pub short_slices : List Store → List ℕ → List ℕ → Check
short_slices ss os vs = SliceTooShort when (ltb (length os) (length ss) || ltb (length vs) (length ss))

-- "13 last"
abbrev pub lay_checks : Plan → List ℕ → List ℕ → List ℕ → List Check
lay_checks p text os vs = plan_checks p text ++ short_slices (stores_of p text) os vs ∷ []

-- the count of stores, or the refusal
unfoldable pub planned : Plan → List ℕ → List ℕ → List ℕ → Result ℕ Refusal
planned p text os vs = checked (lay_checks p text os vs) Err (Ok (length (stores_of p text)))

-- "laid into two lent byte slices. Later entries are unchanged."
unfoldable pub offsets_after : Plan → List ℕ → List ℕ → List ℕ → List ℕ
offsets_after p text os vs = checked (lay_checks p text os vs) (λ _. os) (laid_into (offsets_of (stores_of p text)) os)

unfoldable pub values_after : Plan → List ℕ → List ℕ → List ℕ → List ℕ
values_after p text os vs = checked (lay_checks p text os vs) (λ _. vs) (laid_into (values_of (stores_of p text)) vs)

-- neither the plan nor a slice is refused
pub record Acceptable (p : Plan) (text os vs : List ℕ) : Type 0 where
  pub allowed : first_of (plan_checks p text) ≡ None
  pub offsets_room : length (stores_of p text) ≤ length os
  pub values_room : length (stores_of p text) ≤ length vs

-- A plan is accepted exactly there, and the slices then begin with its stores; a refused one changes nothing.
pub record TakenExactly (p : Plan) (text os vs : List ℕ) : Type 0 where
  pub accepted : Acceptable p text os vs → planned p text os vs ≡ Ok (length (stores_of p text))
  pub offsets : Acceptable p text os vs → offsets_after p text os vs ≡ offsets_of (stores_of p text) ++ drop (length (stores_of p text)) os
  pub values : Acceptable p text os vs → values_after p text os vs ≡ values_of (stores_of p text) ++ drop (length (stores_of p text)) vs
  pub only : {count : ℕ} → planned p text os vs ≡ Ok count → Acceptable p text os vs
  -- "Each returns its number alone, with read-out and lent slices as before."
  pub offsets_stay : {r : Refusal} → planned p text os vs ≡ Err r → offsets_after p text os vs ≡ os
  pub values_stay : {r : Refusal} → planned p text os vs ≡ Err r → values_after p text os vs ≡ vs
  -- "A plan for no field is accepted and has 0 stores."
  pub no_field : p.numbers.patch_mask ≡ 0 → p.text_field ≡ None → planned p text os vs ≡ Ok 0

abbrev pub PlanTakenExactly : Type 0
PlanTakenExactly = (p : Plan) (text os vs : List ℕ) → TakenExactly p text os vs

-- No store of an accepted plan is past the last offset.
abbrev pub EveryStoreInBank : Type 0
EveryStoreInBank =
    (p : Plan) (text : List ℕ) (last : ℕ) →
    first_of (plan_checks p text) ≡ None → p.layout.last_offset ≡ Some last → Each (λ (s : Store). s.offset ≤ last) (stores_of p text)

-- What a plan was asked before 8 was parted in three: no check of 9, 10, 1 to 6 and 7 applies, and each wanted text is one that
-- `accepts_text` takes.
pub record AsBefore (p : Plan) (text : List ℕ) : Type 0 where
  pub no_9 : (unknown_bits p).applies ≡ false
  pub no_10 : (unknown_field p).applies ≡ false
  pub no_1_to_7 : (place : ℕ) (f : LuminaireField) (value : ℕ) → slice_get luminaire_fields place ≡ Some f
      → wanted_number p.numbers f.kind ≡ Some value → first_of (number_checks p.layout f value) ≡ None
  pub no_1_to_6 : (place : ℕ) (f : LuminaireField) → slice_get luminaire_fields place ≡ Some f
      → is_for p.text_field place ≡ true → first_of (write_checks p.layout f) ≡ None
  pub text_taken : (place : ℕ) (f : LuminaireField) → slice_get luminaire_fields place ≡ Some f
      → is_for p.text_field place ≡ true → accepts_text f text ≡ true

-- 02, F-1: "Plans are accepted as before"
pub record AcceptedAsBefore (p : Plan) (text os vs : List ℕ) : Type 0 where
  pub accepted : AsBefore p text → length (stores_of p text) ≤ length os → length (stores_of p text) ≤ length vs
      → planned p text os vs ≡ Ok (length (stores_of p text))
  pub only : (count : ℕ) → planned p text os vs ≡ Ok count → AsBefore p text

abbrev pub PlansAcceptedAsBefore : Type 0
PlansAcceptedAsBefore = (p : Plan) (text os vs : List ℕ) → AcceptedAsBefore p text os vs

-- Where 16 is answered, the byte at its index is outside 20 to 7E hex and every byte before it is inside; the index is below the
-- length of the text's field.
pub record RefusedByte (p : Plan) (text : List ℕ) (index : ℕ) : Type 0 where
  pub place : ℕ
  pub field : LuminaireField
  pub in_table : slice_get luminaire_fields place ≡ Some field
  pub is_wanted : is_for p.text_field place ≡ true
  pub first_outside : FirstOutside text index
  pub below_length : index < field.len

abbrev pub FirstUnprintable : Type 0
FirstUnprintable = (p : Plan) (text os vs : List ℕ) (index : ℕ) → planned p text os vs ≡ Err (ByteNotPrintable index) → RefusedByte p text index
