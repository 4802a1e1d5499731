-- Laws of the checks of a plan: what `check_writable` tells of them, field by field.
-- Assumes nothing.
use Rattle.std.specs.Prelude.{Err, None, Ok, Option, Result, Some, slice_get}
use mathlib.Core.Path.{◌≡◌, refl, sym, ◌∙◌, subst}
use mathlib.Core.Bool.{Bool, true, false, not}
use mathlib.Core.List.{List, [], ◌∷◌, ◌++◌}
use Prim.Native.Nat.{ℕ, ◌+◌}
use lib.ListN.{take}
use Rattle.bus.specs.declared.part251.LuminaireFormat.{LuminaireFormat}
use Rattle.bank.specs.declared.refusal.Refusal.{Refusal}
use Rattle.bank.specs.declared.luminaire_write.LuminaireField.{LuminaireField}
use Rattle.bank.specs.declared.luminaire_write.Bank1Layout.{Bank1Layout}
use Rattle.bank.specs.Refusal.{Check, ◌when◌, first_of}
use Rattle.bank.specs.Fields.{luminaire_fields, accepts_number}
use Rattle.bank.specs.Writable.{format_in, write_checks, check_writable}
use Rattle.bus.proofs.Lists.{no_element}
use Rattle.bank.proofs.Checks.{refused_first, passed_first}
use Rattle.bank.proofs.Writable.{in_format_lem}
use Rattle.records.specs.Writes.{gather}
use Rattle.records.specs.Plan.{rejects}
use Rattle.records.proofs.Gathering.{gather_front, gather_row}

pub first_none : first_of [] ≡ None
unfolding first_of
first_none = refl

-- a check alone
pub alone_passed : (r : Refusal) {b : Bool} → b ≡ false → first_of (r when b ∷ []) ≡ None
unfolding first_of
alone_passed r e = rw e

pub alone_refused : (r : Refusal) {b : Bool} → b ≡ true → first_of (r when b ∷ []) ≡ Some r
unfolding first_of
alone_refused r e = rw e

module _ (l : Bank1Layout) (f : LuminaireField) where
  -- what `check_writable` tells of its checks
  abbrev pub Told : Result LuminaireFormat Refusal → Type 0
  Told (Ok v) = (first_of (write_checks l f) ≡ None) × (format_in l.content_format_id ≡ Some v)
  Told (Err r) = first_of (write_checks l f) ≡ Some r

  told_of : (o : Option Refusal) (m : Option LuminaireFormat) → first_of (write_checks l f) ≡ o → format_in l.content_format_id ≡ m → Told (check_writable l f)
  unfolding check_writable
  told_of (Some r) m p q = rw p p
  told_of None (Some v) p q = rw (p, q) (p, q)
  told_of None None p q = no_element (sym q ∙ (in_format_lem l f p).is_format)

  pub writable_told : {t : (Result LuminaireFormat Refusal)} → check_writable l f ≡ t → Told t
  writable_told e = subst Told e (told_of (first_of (write_checks l f)) (format_in l.content_format_id) refl refl)

  -- a check behind those
  module _ (later : List Check) where
    pub refused_behind : {r : Refusal} → check_writable l f ≡ Err r → first_of (write_checks l f ++ later) ≡ Some r
    refused_behind e = refused_first (write_checks l f) later (writable_told e)

    pub passed_behind : {v : LuminaireFormat} → check_writable l f ≡ Ok v → first_of (write_checks l f ++ later) ≡ first_of later
    passed_behind e = passed_first (write_checks l f) later (writable_told e).0

  -- a number is rejected where the field doesn't accept it in the bank's format
  pub rejects_is : {v : LuminaireFormat} {b : Bool} (value : ℕ) → check_writable l f ≡ Ok v → accepts_number f v value ≡ b → rejects (format_in l.content_format_id) f value ≡ not b
  rejects_is value e a = rw ((writable_told e).1, a)

-- the checks of all fields, one field of the table after the other
module _ (g : ℕ → LuminaireField → List Check) (i : ℕ) {f : LuminaireField} (e : slice_get luminaire_fields i ≡ Some f) (before : first_of (gather g (take i luminaire_fields)) ≡ None) where
  pub field_passed : first_of (g i f) ≡ None → first_of (gather g (take (i + 1) luminaire_fields)) ≡ None
  field_passed own = rw (gather_row g luminaire_fields i e) (passed_first (gather g (take i luminaire_fields)) (g i f) before ∙ own)

  pub field_refused : {r : Refusal} → first_of (g i f) ≡ Some r → first_of (gather g luminaire_fields) ≡ Some r
  field_refused own =
      let rest = gather_front g luminaire_fields (i + 1) in
      rw (rest.1, gather_row g luminaire_fields i e)
      (refused_first (gather g (take i luminaire_fields) ++ g i f) rest.0
      (passed_first (gather g (take i luminaire_fields)) (g i f) before ∙ own))
