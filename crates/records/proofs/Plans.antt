-- Laws of what a plan answers, and of what it leaves in the slices that it is lent; the theorem on where it is accepted.
-- Assumes nothing.
use Rattle.std.specs.Prelude.{Err, None, Ok, Option, Result, Some}
use mathlib.Core.Path.{◌≡◌, refl, sym, ap, ◌∙◌}
use mathlib.Core.Bool.{true, ◌||◌}
use mathlib.Core.List.{List, [], ◌∷◌, ◌++◌}
use Prim.Native.Nat.{ℕ, ◌≤◌, ◌<◌}
use native.Mathlib.Nat.{zero-div}
use native.Mathlib.Omega.{arith}
use borrow.Author.Tests.{lt-ltb, le-ltb, ltb-false}
use lib.Dec.{ltb}
use lib.ListN.{length, drop}
use Rattle.bus.specs.Value.{laid_into}
use Rattle.bus.proofs.Lists.{laid_whole}
use Rattle.bank.specs.declared.luminaire_write.FieldKind.{FieldKind}
use Rattle.bank.specs.declared.luminaire_write.FieldKind.TheVariants.{LayoutId, Number, Text}
use Rattle.bank.specs.declared.luminaire_write.LuminaireField.{LuminaireField}
use Rattle.bank.specs.declared.refusal.Refusal.{Refusal}
use Rattle.bank.specs.declared.refusal.Refusal.TheVariants.{SliceTooShort}
use Rattle.bank.specs.Refusal.{Check, first_of}
use Rattle.bank.specs.Fields.{luminaire_fields}
use Rattle.bank.proofs.Checks.{refused_first, passed_first, none_first, none_second, passed, or_left, or_right, was_answered}
use Rattle.records.specs.declared.luminaire_write.Plan.{Plan}
use Rattle.records.specs.Writes.{Store, number_for, wanted_number, bytes_for, stores_at, offsets_of, values_of}
use Rattle.records.specs.Plan.{unknown_bits, unknown_field, field_checks, plan_checks, stores_of, short_slices, lay_checks, planned, offsets_after, values_after, Acceptable, PlanTakenExactly}
use Rattle.records.proofs.Gathering.{gather_nothing}
use Rattle.records.proofs.Refusals.{alone_passed, alone_refused}
use Rattle.records.proofs.Stages.{stores_of_none}
use Rattle.records.proofs.Stores.{offsets_count, values_count}
use Rattle.records.proofs.Table.{by_field}

module _ (p : Plan) (text os vs : List ℕ) where
  -- an answer, and the slices behind the call
  abbrev Answered : Result ℕ Refusal → List ℕ → List ℕ → Type 0
  Answered r os' vs' = (r ≡ planned p text os vs) × ((os' ≡ offsets_after p text os vs) × (vs' ≡ values_after p text os vs))

  refused : {r : Refusal} → first_of (lay_checks p text os vs) ≡ Some r → Answered (Err r) os vs
  unfolding planned offsets_after values_after
  refused e = (rw e, (rw e, rw e))

  pub plan_refused : {r : Refusal} → first_of (plan_checks p text) ≡ Some r → Answered (Err r) os vs
  plan_refused e = refused (refused_first (plan_checks p text) (short_slices (stores_of p text) os vs ∷ []) e)

  -- where no other check applies
  module _ (sound : first_of (plan_checks p text) ≡ None) where
    last : first_of (lay_checks p text os vs) ≡ first_of (short_slices (stores_of p text) os vs ∷ [])
    last = passed_first (plan_checks p text) (short_slices (stores_of p text) os vs ∷ []) sound

    short : (ltb (length os) (length (stores_of p text)) || ltb (length vs) (length (stores_of p text))) ≡ true → Answered (Err SliceTooShort) os vs
    short e = refused (last ∙ alone_refused SliceTooShort e)

    pub offsets_short : length os < length (stores_of p text) → Answered (Err SliceTooShort) os vs
    offsets_short h = short (rw (lt-ltb (length os) (length (stores_of p text)) h))

    pub values_short : length (stores_of p text) ≤ length os → length vs < length (stores_of p text) → Answered (Err SliceTooShort) os vs
    values_short k h = short (rw (le-ltb (length os) (length (stores_of p text)) k) (lt-ltb (length vs) (length (stores_of p text)) h))

    pub plan_accepted : {n : ℕ} {os' vs' : List ℕ} → length (stores_of p text) ≤ length os → length (stores_of p text) ≤ length vs
        → n ≡ length (stores_of p text) → os' ≡ laid_into (offsets_of (stores_of p text)) os → vs' ≡ laid_into (values_of (stores_of p text)) vs
        → Answered (Ok n) os' vs'
    unfolding planned offsets_after values_after
    plan_accepted k l a b d =
        let e : first_of (lay_checks p text os vs) ≡ None = last ∙ alone_passed SliceTooShort (rw (le-ltb (length os) (length (stores_of p text)) k) (le-ltb (length vs) (length (stores_of p text)) l)) in
        (rw e (ap Ok a), (rw e b, rw e d))

-- ---- where a plan is accepted

pub no_error : {A : Type 0} {r : Refusal} {n : ℕ} → Err r ≡ Ok n → A
no_error e = absurd cc

acceptable : (p : Plan) (text os vs : List ℕ) {count : ℕ} → planned p text os vs ≡ Ok count → Acceptable p text os vs
unfolding planned
acceptable p text os vs e = go (first_of (lay_checks p text os vs)) refl
  where
    go : (o : Option Refusal) → first_of (lay_checks p text os vs) ≡ o → Acceptable p text os vs
    go (Some r) f = no_error (rw f at e)
    go None f =
        let ss = stores_of p text in
        let slices = (passed (short_slices ss os vs ∷ []) (none_second (plan_checks p text) (short_slices ss os vs ∷ []) f)).0 in
        record {
          allowed = none_first (plan_checks p text) (short_slices ss os vs ∷ []) f;
          offsets_room = ltb-false (length os) (length ss) (or_left (ltb (length os) (length ss)) (ltb (length vs) (length ss)) slices);
          values_room = ltb-false (length vs) (length ss) (or_right (ltb (length os) (length ss)) (ltb (length vs) (length ss)) slices);
        }

pub passed_plan : (p : Plan) (text os vs : List ℕ) {count : ℕ} → planned p text os vs ≡ Ok count → first_of (plan_checks p text) ≡ None
passed_plan p text os vs e = (acceptable p text os vs e).allowed

pub planned_count : (p : Plan) (text os vs : List ℕ) {count : ℕ} → planned p text os vs ≡ Ok count → count ≡ length (stores_of p text)
unfolding planned
planned_count p text os vs e = (was_answered (lay_checks p text os vs) (length (stores_of p text)) e).1

-- a plan that is refused leaves the slices as before
left : (p : Plan) (text os vs : List ℕ) {r : Refusal} → planned p text os vs ≡ Err r → (offsets_after p text os vs ≡ os) × (values_after p text os vs ≡ vs)
unfolding planned
left p text os vs {r} e = go (first_of (lay_checks p text os vs)) refl
  where
    go : (o : Option Refusal) → first_of (lay_checks p text os vs) ≡ o → (offsets_after p text os vs ≡ os) × (values_after p text os vs ≡ vs)
    go None f = no_error (sym (rw f at e))
    go (Some x) f = (sym (refused p text os vs f).1.0, sym (refused p text os vs f).1.1)

-- a plan for no field
module _ (p : Plan) (text : List ℕ) (no_number : p.numbers.patch_mask ≡ 0) (no_text : p.text_field ≡ None) where
  none_wanted : (kind : FieldKind) → wanted_number p.numbers kind ≡ None
  unfolding number_for
  none_wanted LayoutId = refl
  none_wanted (Number patch r) = rw (no_number, zero-div)
  none_wanted (Text t) = refl

  no_checks : first_of (plan_checks p text) ≡ None
  unfolding plan_checks first_of
  no_checks =
      ap (λ (cs : List Check). first_of (unknown_bits p ∷ unknown_field p ∷ cs)) (gather_nothing (field_checks p text) luminaire_fields (λ i f _. rw (none_wanted f.kind, no_text)))
      ∙ rw (no_number, no_text)

  no_bytes : (kind : FieldKind) (i : ℕ) (f : LuminaireField) → f.kind ≡ kind → bytes_for kind p.numbers p.text_field text i f ≡ None
  no_bytes LayoutId i f k = refl
  no_bytes (Number patch r) i f k = rw (none_wanted f.kind)
  no_bytes (Text t) i f k = rw no_text

  no_stores : stores_of p text ≡ []
  no_stores =
      by_field p.numbers p.text_field text
      ∙ gather_nothing (stores_at p.numbers p.text_field text) luminaire_fields
      (λ i f _. stores_of_none p.numbers p.text_field text i f (no_bytes f.kind i f refl))

pub plan_taken_exactly : PlanTakenExactly
plan_taken_exactly p text os vs =
    let ss = stores_of p text in
    record {
      accepted = λ a. sym (answered a).0;
      offsets = λ a. sym (answered a).1.0 ∙ laid_whole (offsets_of ss) os (omega (arith, a.offsets_room, offsets_count ss)) ∙ ap (λ (n : ℕ). offsets_of ss ++ drop n os) (offsets_count ss);
      values = λ a. sym (answered a).1.1 ∙ laid_whole (values_of ss) vs (omega (arith, a.values_room, values_count ss)) ∙ ap (λ (n : ℕ). values_of ss ++ drop n vs) (values_count ss);
      only = λ {count} e. acceptable p text os vs e;
      offsets_stay = λ {r} e. (left p text os vs e).0;
      values_stay = λ {r} e. (left p text os vs e).1;
      no_field = λ a b.
          let none_there = no_stores p text a b in
          sym (answered (record { allowed = no_checks p text a b; offsets_room = rw none_there (omega arith); values_room = rw none_there (omega arith) })).0 ∙ ap (λ (l : List Store). Ok (length l)) none_there;
    }
  where
    answered : Acceptable p text os vs → Answered p text os vs (Ok (length (stores_of p text))) (laid_into (offsets_of (stores_of p text)) os) (laid_into (values_of (stores_of p text)) vs)
    answered a = plan_accepted p text os vs a.allowed a.offsets_room a.values_room refl refl refl
