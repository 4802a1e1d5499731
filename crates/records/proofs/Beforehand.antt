-- The number of stores beforehand, beside what the plan answers.
-- Assumes nothing.
use Rattle.std.proofs.lemmas.Option.{same_Some}
use Rattle.std.specs.Prelude.{Err, None, Ok, Option, Some}
use mathlib.Core.Path.{◌≡◌, refl, sym, ap, ◌∙◌, subst}
use mathlib.Core.Bool.{Bool, true, false, cond, ◌||◌, true≢false}
use mathlib.Core.List.{List, [], ◌∷◌}
use Prim.Native.Nat.{ℕ, ◌<◌, min}
use native.Mathlib.Omega.{arith}
use borrow.Author.Tests.{ltb-true}
use lib.Dec.{eqb, ltb}
use lib.ListN.{length}
use Rattle.bus.proofs.Tests.{by_test}
use Rattle.bus.proofs.Lists.{no_element}
use Rattle.bank.specs.declared.luminaire_write.Bank1Layout.{Bank1Layout}
use Rattle.bank.specs.declared.luminaire_write.LuminaireField.{LuminaireField}
use Rattle.bank.specs.declared.refusal.Refusal.{Refusal}
use Rattle.bank.specs.declared.refusal.Refusal.TheVariants.{NumberNotAccepted, SliceTooShort}
use Rattle.bank.specs.Fields.{luminaire_fields, first_not_printable}
use Rattle.bank.specs.Refusal.{Check, ◌when◌, number_of, first_of}
use Rattle.bank.specs.Writable.{format_in, write_checks, not_printable_at, text_checks}
use Rattle.bank.proofs.Checks.{refused_first, passed_first, was_answered, was_refused}
use Rattle.records.specs.declared.luminaire_write.Plan.{Plan}
use Rattle.records.specs.Writes.{Each, wanted_number, is_for}
use Rattle.records.specs.Plan.{rejects, if_wanted, number_checks, write_text_checks, field_checks, plan_checks, stores_of, short_slices, lay_checks, planned}
use Rattle.records.specs.Count.{counted_stores, StoresAsLaid}
use Rattle.records.proofs.Gathering.{each_append, each_gather}
use Rattle.records.proofs.Plans.{passed_plan, planned_count}

module _ (p : Plan) (text : List ℕ) where
  pub count_accepted : {n : ℕ} → counted_stores p text ≡ Ok n → (first_of (plan_checks p text) ≡ None) × (n ≡ length (stores_of p text))
  unfolding counted_stores
  count_accepted e = was_answered (plan_checks p text) (length (stores_of p text)) e

  pub count_refused : {r : Refusal} → counted_stores p text ≡ Err r → first_of (plan_checks p text) ≡ Some r
  unfolding counted_stores
  count_refused e = was_refused (plan_checks p text) (length (stores_of p text)) e

-- of two slices one is shorter
shorter : (a b n : ℕ) → (ltb a n || ltb b n) ≡ true → min a b < n
shorter a b n t =
    by_test (ltb a n)
    (λ u. omega (arith, ltb-true a n u))
    (λ u. omega (arith, ltb-true b n (rw u at t)))

-- ---- the plan's own checks never refuse it with 13

abbrev Other : Check → Type 0
Other c = eqb (number_of c.refusal) 13 ≡ false

others : (cs : List Check) {r : Refusal} → Each Other cs → first_of cs ≡ Some r → eqb (number_of r) 13 ≡ false
unfolding first_of
others [] a e = no_element e
others (c ∷ cs) {r} a e =
    by_test c.applies
    (λ t. subst (λ (q : Refusal). eqb (number_of q) 13 ≡ false) (same_Some _ _ (rw t at e)) a.0)
    (λ t. others cs a.1 (rw t at e))

write_others : (l : Bank1Layout) (f : LuminaireField) → Each Other (write_checks l f)
write_others l f = (refl, (refl, (refl, (refl, (refl, (refl, tt))))))

letter_others : (o : Option ℕ) → Each Other (not_printable_at o)
letter_others None = tt
letter_others (Some index) = (refl, tt)

module _ (p : Plan) (text : List ℕ) where
  number_others : (f : LuminaireField) (o : Option ℕ) → Each Other (if_wanted o (number_checks p.layout f))
  number_others f None = tt
  number_others f (Some value) = each_append Other (write_checks p.layout f) (NumberNotAccepted when rejects (format_in p.layout.content_format_id) f value ∷ []) (write_others p.layout f) (refl, tt)

  text_others : (f : LuminaireField) (b : Bool) → Each Other (cond b (write_text_checks p.layout f text) [])
  text_others f false = tt
  text_others f true = each_append Other (write_checks p.layout f) (text_checks f text) (write_others p.layout f) (refl, (refl, letter_others (first_not_printable text)))

  plan_others : Each Other (plan_checks p text)
  unfolding plan_checks
  plan_others = (
    refl,
    (
      refl,
      each_gather Other (field_checks p text) luminaire_fields
          (λ i f _. each_append Other (if_wanted (wanted_number p.numbers f.kind) (number_checks p.layout f)) _ (number_others f (wanted_number p.numbers f.kind)) (text_others f (is_for p.text_field i))),
    ),
  )

  not_13 : {A : Type 0} → first_of (plan_checks p text) ≡ Some SliceTooShort → A
  not_13 e = absurd (true≢false (others (plan_checks p text) plan_others e))

  -- ---- the count and the answer

  no_checks : first_of (plan_checks p text) ≡ None → counted_stores p text ≡ Ok (length (stores_of p text))
  unfolding counted_stores
  no_checks e = rw e

  some_check : {r : Refusal} → first_of (plan_checks p text) ≡ Some r → counted_stores p text ≡ Err r
  unfolding counted_stores
  some_check e = rw e

  module _ (os vs : List ℕ) where
    as_accepted : {n : ℕ} → planned p text os vs ≡ Ok n → counted_stores p text ≡ Ok n
    as_accepted {n} e = no_checks (passed_plan p text os vs e) ∙ ap Ok (sym (planned_count p text os vs e))

    -- a refusal is the plan's, or that of a short slice
    as_refused : {A : Type 0} {r : Refusal} → planned p text os vs ≡ Err r → (counted_stores p text ≡ Err r → A)
        → (r ≡ SliceTooShort → first_of (plan_checks p text) ≡ None → min (length os) (length vs) < length (stores_of p text) → A) → A
    unfolding planned first_of
    as_refused {A} {r} e own short = go (first_of (plan_checks p text)) refl
      where
        told : first_of (lay_checks p text os vs) ≡ Some r
        told = was_refused (lay_checks p text os vs) (length (stores_of p text)) e

        go : (o : Option Refusal) → first_of (plan_checks p text) ≡ o → A
        go (Some q) f = own (some_check (f ∙ sym (refused_first (plan_checks p text) _ f) ∙ told))
        go None f =
            let last = sym (passed_first (plan_checks p text) (short_slices (stores_of p text) os vs ∷ []) f) ∙ told in
            by_test (ltb (length os) (length (stores_of p text)) || ltb (length vs) (length (stores_of p text)))
            (λ t. short (sym (same_Some _ _ (rw t at last))) f (shorter (length os) (length vs) (length (stores_of p text)) t))
            (λ t. no_element (rw t at last))

pub stores_as_laid : StoresAsLaid
stores_as_laid p text os vs =
    record {
      accepted = λ e. as_accepted p text os vs e;
      refused = λ e other. as_refused p text os vs e (λ own. own) (λ is f short. absurd (other is));
      lacking = λ e.
          as_refused p text os vs e
          (λ own. not_13 p text (count_refused p text own))
          (λ is f short. (no_checks p text f, short));
    }
