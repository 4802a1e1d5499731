-- The theorems on the refusal of a text: plans are accepted as before, and 16 tells the first byte outside.
-- Assumes nothing.
use Rattle.std.specs.Prelude.{Err, None, Option, Some, slice_get}
use mathlib.Core.Path.{◌≡◌, refl, sym, ap, ◌∙◌}
use mathlib.Core.Bool.{Bool, true, false, cond}
use mathlib.Core.List.{List, [], ◌∷◌, ◌++◌}
use Prim.Native.Nat.{ℕ, suc}
use Rattle.bus.proofs.Tests.{by_test}
use Rattle.bus.proofs.Lists.{no_element}
use Rattle.bank.specs.declared.refusal.Refusal.{Refusal}
use Rattle.bank.specs.declared.refusal.Refusal.TheVariants.{ByteNotPrintable}
use Rattle.bank.specs.declared.luminaire_write.LuminaireField.{LuminaireField}
use Rattle.bank.specs.declared.luminaire_write.Bank1Layout.{Bank1Layout}
use Rattle.bank.specs.Refusal.{Check, value_of, first_of}
use Rattle.bank.specs.Fields.{luminaire_fields}
use Rattle.bank.specs.Writable.{write_checks, text_checks}
use Rattle.bank.proofs.Checks.{refused_first, passed_first, none_first, passed}
use Rattle.bank.proofs.TextChecks.{other, text_passes, text_taken_exactly}
use Rattle.records.specs.declared.luminaire_write.Plan.{Plan}
use Rattle.records.specs.Writes.{gather, wanted_number, is_for}
use Rattle.records.specs.Plan.{number_checks, write_text_checks, if_wanted, field_checks, plan_checks, stores_of, short_slices, lay_checks, planned, AsBefore, PlansAcceptedAsBefore, RefusedByte, FirstUnprintable}
use Rattle.records.proofs.Accepted.{head_checks, of_number, of_text, number_sound, text_sound, accepted_text}
use Rattle.records.proofs.Plans.{no_error, passed_plan, plan_taken_exactly}
use Rattle.records.proofs.Refusals.{first_none}

-- ---- plans are accepted as before

gather_passed : (g : ℕ → LuminaireField → List Check) (fs : List LuminaireField) → ((i : ℕ) (f : LuminaireField) → slice_get fs i ≡ Some f → first_of (g i f) ≡ None) → first_of (gather g fs) ≡ None
gather_passed g [] h = first_none
gather_passed g (f ∷ fs) h = passed_first (g 0 f) (gather (λ i. g (suc i)) fs) (h 0 f refl) ∙ gather_passed (λ i. g (suc i)) fs (λ i. h (suc i))

module _ (p : Plan) (text : List ℕ) where
  module _ (a : AsBefore p text) where
    number_passed : (i : ℕ) (f : LuminaireField) → slice_get luminaire_fields i ≡ Some f → (o : Option ℕ) → wanted_number p.numbers f.kind ≡ o → first_of (if_wanted o (number_checks p.layout f)) ≡ None
    number_passed i f e None w = first_none
    number_passed i f e (Some value) w = a.no_1_to_7 i f value e w

    text_passed : (i : ℕ) (f : LuminaireField) → slice_get luminaire_fields i ≡ Some f → (b : Bool) → is_for p.text_field i ≡ b → first_of (cond b (write_text_checks p.layout f text) []) ≡ None
    text_passed i f e false w = first_none
    text_passed i f e true w = passed_first (write_checks p.layout f) (text_checks f text) (a.no_1_to_6 i f e w) ∙ text_passes f text (a.text_taken i f e w)

    heads_passed : first_of (head_checks p) ≡ None
    unfolding first_of
    heads_passed = rw (a.no_9, a.no_10)

    allowed : first_of (plan_checks p text) ≡ None
    unfolding plan_checks
    allowed =
        passed_first (head_checks p) (gather (field_checks p text) luminaire_fields) heads_passed
        ∙ gather_passed (field_checks p text) luminaire_fields
        (λ i f e. passed_first (of_number p f) (of_text p text i f) (number_passed i f e (wanted_number p.numbers f.kind) refl)
        ∙ text_passed i f e (is_for p.text_field i) refl)

  as_before : first_of (plan_checks p text) ≡ None → AsBefore p text
  unfolding plan_checks
  as_before sound =
      let first = passed (head_checks p) (none_first (head_checks p) (gather (field_checks p text) luminaire_fields) sound) in
      record {
        no_9 = first.0;
        no_10 = first.1.0;
        no_1_to_7 = λ i f value e w. number_sound p text sound i e w;
        no_1_to_6 = λ i f e w. none_first (write_checks p.layout f) (text_checks f text) (text_sound p text sound i e w);
        text_taken = λ i f e w. accepted_text p text sound i e w;
      }

pub plans_accepted_as_before : PlansAcceptedAsBefore
plans_accepted_as_before p text os vs =
    record {
      accepted = λ a k l. (plan_taken_exactly p text os vs).accepted (record { allowed = allowed p text a; offsets_room = k; values_room = l });
      only = λ count e. as_before p text (passed_plan p text os vs e);
    }

-- ---- 16 tells the first byte outside

-- checks whose refusals carry no value
abbrev Plain : List Check → Type 0
Plain [] = Unit {0}
Plain (c ∷ cs) = (value_of c.refusal ≡ None) × Plain cs

writes_plain : (l : Bank1Layout) (f : LuminaireField) → Plain (write_checks l f)
writes_plain l f = (refl, (refl, (refl, (refl, (refl, (refl, tt))))))

number_plain : (l : Bank1Layout) (f : LuminaireField) (value : ℕ) → Plain (number_checks l f value)
number_plain l f value = (refl, (refl, (refl, (refl, (refl, (refl, (refl, tt)))))))

module _ (p : Plan) (text : List ℕ) where
  -- where these checks are refused by 16, its index is right
  abbrev Tells : List Check → Type 0
  Tells cs = (index : ℕ) → first_of cs ≡ Some (ByteNotPrintable index) → RefusedByte p text index

  plain_tells : (cs : List Check) → Plain cs → Tells cs
  unfolding first_of
  plain_tells [] q i e = no_element e
  plain_tells (c ∷ cs) q i e = by_test c.applies (λ t. other q.0 (rw t at e)) (λ t. plain_tells cs q.1 i (rw t at e))

  both_tell : (xs ys : List Check) → Tells xs → Tells ys → Tells (xs ++ ys)
  both_tell xs ys a b i e = go (first_of xs) refl
    where
      go : (o : Option Refusal) → first_of xs ≡ o → RefusedByte p text i
      go None n = b i (sym (passed_first xs ys n) ∙ e)
      go (Some r) n = a i (n ∙ sym (refused_first xs ys n) ∙ e)

  gather_tells : (g : ℕ → LuminaireField → List Check) (fs : List LuminaireField) → ((i : ℕ) (f : LuminaireField) → slice_get fs i ≡ Some f → Tells (g i f)) → Tells (gather g fs)
  gather_tells g [] h = plain_tells [] tt
  gather_tells g (f ∷ fs) h = both_tell (g 0 f) (gather (λ i. g (suc i)) fs) (h 0 f refl) (gather_tells (λ i. g (suc i)) fs (λ i. h (suc i)))

  number_tells : (f : LuminaireField) (o : Option ℕ) → Tells (if_wanted o (number_checks p.layout f))
  number_tells f None = plain_tells [] tt
  number_tells f (Some value) = plain_tells (number_checks p.layout f value) (number_plain p.layout f value)

  text_tells : (i : ℕ) (f : LuminaireField) → slice_get luminaire_fields i ≡ Some f → (b : Bool) → is_for p.text_field i ≡ b → Tells (cond b (write_text_checks p.layout f text) [])
  text_tells i f e false w = plain_tells [] tt
  text_tells i f e true w =
      both_tell (write_checks p.layout f) (text_checks f text) (plain_tells (write_checks p.layout f) (writes_plain p.layout f))
      (λ index r. record {
        place = i;
        field = f;
        in_table = e;
        is_wanted = w;
        first_outside = (text_taken_exactly f text).first_outside index r;
        below_length = (text_taken_exactly f text).below_length index r;
      })

  plan_tells : Tells (plan_checks p text)
  unfolding plan_checks
  plan_tells =
      both_tell (head_checks p) (gather (field_checks p text) luminaire_fields) (plain_tells (head_checks p) (refl, (refl, tt)))
      (gather_tells (field_checks p text) luminaire_fields
      (λ i f e. both_tell (of_number p f) (of_text p text i f) (number_tells f (wanted_number p.numbers f.kind)) (text_tells i f e (is_for p.text_field i) refl)))

pub first_unprintable : FirstUnprintable
unfolding planned
first_unprintable p text os vs index e = go (first_of (lay_checks p text os vs)) refl
  where
    slices : Check
    slices = short_slices (stores_of p text) os vs

    go : (o : Option Refusal) → first_of (lay_checks p text os vs) ≡ o → RefusedByte p text index
    go None f = no_error (sym (rw f at e))
    go (Some r) f =
        let told : Err r ≡ Err (ByteNotPrintable index) = rw f at e in
        let same : r ≡ ByteNotPrintable index = cc in
        both_tell p text (plan_checks p text) (slices ∷ []) (plan_tells p text) (plain_tells p text (slices ∷ []) (refl, tt)) index (f ∙ ap Some same)
