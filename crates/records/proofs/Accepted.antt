-- Laws of an accepted plan: what is known of each field that it writes.
-- Assumes nothing.
use Rattle.std.proofs.lemmas.Option.{same_Some}
use Rattle.std.specs.Prelude.{None, Option, Some, slice_get}
use mathlib.Core.Path.{◌≡◌, refl, ap, ◌∙◌, subst}
use mathlib.Core.Bool.{true, cond}
use mathlib.Core.List.{List, [], ◌∷◌}
use Prim.Native.Nat.{ℕ, zero, suc, ◌≤◌}
use borrow.Author.Tests.{not-false}
use Rattle.bus.specs.declared.part251.LuminaireFormat.{LuminaireFormat}
use Rattle.bus.proofs.Tests.{by_test}
use Rattle.bus.proofs.Lists.{no_element}
use Rattle.bank.specs.declared.luminaire_write.NumberRule.{NumberRule}
use Rattle.bank.specs.declared.luminaire_write.FieldKind.{FieldKind}
use Rattle.bank.specs.declared.luminaire_write.FieldKind.TheVariants.{LayoutId, Number, Text}
use Rattle.bank.specs.declared.luminaire_write.LuminaireField.{LuminaireField}
use Rattle.bank.specs.Refusal.{Check, first_of}
use Rattle.bank.specs.Fields.{luminaire_fields, last_offset_of, accepts_number, accepts_text}
use Rattle.bank.specs.Writable.{format_in, write_checks, text_checks}
use Rattle.bank.proofs.Checks.{none_first, none_second, passed}
use Rattle.bank.proofs.TextChecks.{passed_text}
use Rattle.bank.proofs.Writable as writable
use Rattle.records.specs.declared.luminaire_write.Plan.{Plan}
use Rattle.records.specs.Writes.{gather, number_for, wanted_number, is_for, bytes_for}
use Rattle.records.specs.Plan.{number_checks, write_text_checks, if_wanted, field_checks, unknown_bits, unknown_field, plan_checks}

-- the checks of a plan in their parts: its head, a field's number, a field's text
abbrev pub head_checks : Plan → List Check
head_checks p = unknown_bits p ∷ unknown_field p ∷ []

abbrev pub of_number : Plan → LuminaireField → List Check
of_number p f = if_wanted (wanted_number p.numbers f.kind) (number_checks p.layout f)

abbrev pub of_text : Plan → List ℕ → ℕ → LuminaireField → List Check
of_text p text i f = cond (is_for p.text_field i) (write_text_checks p.layout f text) []

none_gather : (g : ℕ → LuminaireField → List Check) (fs : List LuminaireField) → first_of (gather g fs) ≡ None → (i : ℕ) {f : LuminaireField} → slice_get fs i ≡ Some f → first_of (g i f) ≡ None
none_gather g [] e i m = no_element m
none_gather g (h ∷ fs) e zero m = subst (λ (f : LuminaireField). first_of (g 0 f) ≡ None) (same_Some _ _ m) (none_first (g 0 h) (gather (λ i. g (suc i)) fs) e)
none_gather g (h ∷ fs) e (suc i) m = none_gather (λ i. g (suc i)) fs (none_second (g 0 h) (gather (λ i. g (suc i)) fs) e) i m

module _ (p : Plan) (text : List ℕ) (sound : first_of (plan_checks p text) ≡ None) (i : ℕ) {f : LuminaireField} (e : slice_get luminaire_fields i ≡ Some f) where
  -- neither a field's number nor its text is refused
  field_sound : first_of (field_checks p text i f) ≡ None
  unfolding plan_checks
  field_sound = none_gather (field_checks p text) luminaire_fields (none_second (head_checks p) (gather (field_checks p text) luminaire_fields) sound) i e

  pub number_sound : {value : ℕ} → wanted_number p.numbers f.kind ≡ Some value → first_of (number_checks p.layout f value) ≡ None
  number_sound w = rw w at (none_first (of_number p f) (of_text p text i f) field_sound)

  pub text_sound : is_for p.text_field i ≡ true → first_of (write_text_checks p.layout f text) ≡ None
  text_sound w = rw w at (none_second (of_number p f) (of_text p text i f) field_sound)

  pub accepted_number :
      {patch value : ℕ} {r : NumberRule} {v : LuminaireFormat} → f.kind ≡ Number patch r → number_for p.numbers patch ≡ Some value →
      format_in p.layout.content_format_id ≡ Some v → accepts_number f v value ≡ true
  accepted_number {value = value} {v = v} kind w format =
      let last = passed _ (none_second (write_checks p.layout f) _ (number_sound (ap (wanted_number p.numbers) kind ∙ w))) in
      not-false (accepts_number f v value) (rw format at last.0)

  pub accepted_text : is_for p.text_field i ≡ true → accepts_text f text ≡ true
  accepted_text w = passed_text f text (none_second (write_checks p.layout f) (text_checks f text) (text_sound w))

  -- a field that has a write may be written
  may_write : (kind : FieldKind) {bytes : List ℕ} → f.kind ≡ kind → bytes_for kind p.numbers p.text_field text i f ≡ Some bytes → first_of (write_checks p.layout f) ≡ None
  may_write LayoutId k b = no_element b
  may_write (Number patch r) k b = go (wanted_number p.numbers f.kind) refl
    where
      go : (o : Option ℕ) → wanted_number p.numbers f.kind ≡ o → first_of (write_checks p.layout f) ≡ None
      go None w = no_element (rw w at b)
      go (Some value) w = none_first (write_checks p.layout f) _ (number_sound w)
  may_write (Text t) k b =
      by_test (is_for p.text_field i)
      (λ w. none_first (write_checks p.layout f) _ (text_sound w))
      (λ w. no_element (rw w at b))

  module _ {bytes : List ℕ} (b : bytes_for f.kind p.numbers p.text_field text i f ≡ Some bytes) where
    pub in_format_lem : writable.InFormat p.layout f
    in_format_lem = writable.in_format_lem p.layout f (may_write f.kind refl b)

    pub ends_by_lem : {last : ℕ} → p.layout.last_offset ≡ Some last → last_offset_of f ≤ last
    ends_by_lem = writable.ends_by_lem p.layout f (may_write f.kind refl b)
