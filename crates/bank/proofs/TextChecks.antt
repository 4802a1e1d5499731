-- Laws of the checks of a text: none of them applies exactly where the field accepts it, and 16 tells the first byte outside.
-- Assumes nothing.
use Rattle.std.proofs.lemmas.Option.{same_Some}
use Rattle.std.specs.Prelude.{is_none, None, Option, Some}
use mathlib.Core.Path.{◌≡◌, refl, sym, ap, ◌∙◌}
use mathlib.Core.Bool.{true, false}
use mathlib.Core.List.{List}
use Prim.Native.Nat.{ℕ, ◌≤◌, ◌<◌}
use native.Mathlib.Omega.{arith}
use borrow.Author.Tests.{lt-ltb, le-ltb, leb-true, leb-false}
use lib.Dec.{leb}
use lib.ListN.{length}
use Rattle.bus.proofs.Tests.{by_test, no_yes}
use Rattle.bus.proofs.Lists.{no_element}
use Rattle.bank.specs.declared.luminaire_write.LuminaireField.{LuminaireField}
use Rattle.bank.specs.declared.refusal.Refusal.{Refusal}
use Rattle.bank.specs.declared.refusal.Refusal.TheVariants.{FieldNotText, TextTooLong, ByteNotPrintable}
use Rattle.bank.specs.Refusal.{value_of, first_of}
use Rattle.bank.specs.Fields.{printable, first_not_printable, is_text_kind, accepts_text}
use Rattle.bank.specs.Writable.{not_printable_at, text_checks, FirstOutside, TextTakenExactly}
use Rattle.bank.proofs.Texts.{printable_none, none_printable, found_first, found_below, first_found}

none_where : {A : Type 0} (o : Option A) → is_none o ≡ true → o ≡ None
none_where None e = refl
none_where (Some x) e = absurd (no_yes e)

none_found : (text : List ℕ) (o : Option ℕ) → first_not_printable text ≡ o → printable text ≡ is_none (first_of (not_printable_at o))
unfolding first_of
none_found text None e = printable_none text e
none_found text (Some i) e = by_test (printable text) (λ t. no_element (sym (none_printable text t) ∙ e)) (λ t. t)

-- behind the kind and the length, the letters count
pub letters_left : (f : LuminaireField) (text : List ℕ) → is_text_kind f.kind ≡ true → length text ≤ f.len → first_of (text_checks f text) ≡ first_of (not_printable_at (first_not_printable text))
unfolding first_of
letters_left f text k h = rw (k, le-ltb f.len (length text) h)

pub accepted_exactly : (f : LuminaireField) (text : List ℕ) → accepts_text f text ≡ is_none (first_of (text_checks f text))
unfolding first_of
accepted_exactly f text =
    by_test (is_text_kind f.kind)
    (λ k.
    by_test (leb (length text) f.len)
    (λ l. rw (letters_left f text k (leb-true (length text) f.len l), k, l) (none_found text (first_not_printable text) refl))
    (λ l. rw (k, l, lt-ltb f.len (length text) (leb-false (length text) f.len l))))
    (λ k. rw k)

pub text_passes : (f : LuminaireField) (text : List ℕ) → accepts_text f text ≡ true → first_of (text_checks f text) ≡ None
text_passes f text e = none_where (first_of (text_checks f text)) (sym (accepted_exactly f text) ∙ e)

pub passed_text : (f : LuminaireField) (text : List ℕ) → first_of (text_checks f text) ≡ None → accepts_text f text ≡ true
passed_text f text e = accepted_exactly f text ∙ ap is_none e

-- where 16 is answered, the scan has found its index in a text that is not too long
found_at : (o : Option ℕ) {i : ℕ} → first_of (not_printable_at o) ≡ Some (ByteNotPrintable i) → o ≡ Some i
unfolding first_of
found_at None e = no_element e
found_at (Some j) {i} e = let same : j ≡ i = cc in ap Some same

-- a cause that carries no value is another
pub other : {A : Type 0} {r : Refusal} {i : ℕ} → value_of r ≡ None → Some r ≡ Some (ByteNotPrintable i) → A
other n e = no_element (sym n ∙ ap value_of (same_Some _ _ e))

module _ (f : LuminaireField) (text : List ℕ) {i : ℕ} (e : first_of (text_checks f text) ≡ Some (ByteNotPrintable i)) where
  found : (length text ≤ f.len) × (first_not_printable text ≡ Some i)
  unfolding first_of
  found =
      by_test (is_text_kind f.kind)
      (λ k.
      by_test (leb (length text) f.len)
      (λ l.
      let short = leb-true (length text) f.len l in
      (short, found_at (first_not_printable text) (sym (letters_left f text k short) ∙ e)))
      (λ l. other refl (rw (k, lt-ltb f.len (length text) (leb-false (length text) f.len l)) at e)))
      (λ k. other refl (rw k at e))

  pub refused_below : i < f.len
  refused_below =
      let below = found_below text found.1 in
      omega (arith, found.0)

  pub refused_first : FirstOutside text i
  refused_first = found_first text found.1

module _ (f : LuminaireField) (text : List ℕ) where
  kind_first : is_text_kind f.kind ≡ false → first_of (text_checks f text) ≡ Some FieldNotText
  unfolding first_of
  kind_first k = rw k

  length_next : is_text_kind f.kind ≡ true → f.len < length text → first_of (text_checks f text) ≡ Some TextTooLong
  unfolding first_of
  length_next k h = rw (k, lt-ltb f.len (length text) h)

  letters_last : {i : ℕ} → is_text_kind f.kind ≡ true → length text ≤ f.len → first_not_printable text ≡ Some i → first_of (text_checks f text) ≡ Some (ByteNotPrintable i)
  unfolding first_of
  letters_last k h e = letters_left f text k h ∙ rw e

pub text_taken_exactly : TextTakenExactly
text_taken_exactly f text =
    record {
      not_text = kind_first f text;
      too_long = length_next f text;
      not_printable = λ index k h o. letters_last f text k h (first_found text index o);
      accepted = text_passes f text;
      only = passed_text f text;
      first_outside = λ index e. refused_first f text e;
      below_length = λ index e. refused_below f text e;
    }
