-- What a plan answers to slices that are long enough for the stores of any.
-- Assumes nothing.
use Rattle.std.specs.Prelude.{is_some, Err, None, Ok, Option, Result, Some, slice_get}
use mathlib.Core.Path.{◌≡◌, refl, sym, ap, ◌∙◌}
use mathlib.Core.Bool.{false, ◌||◌, true≢false}
use mathlib.Core.List.{List, ◌++◌}
use Prim.Native.Nat.{ℕ, ◌+◌, ◌≤◌, ◌<◌}
use native.Mathlib.Omega.{arith}
use lib.Seq.{sets}
use lib.ListN.{length, take, length-append, length-take}
use Rattle.bus.specs.Value.{laid_into}
use Rattle.bus.proofs.Lists.{sets_laid}
use Rattle.bank.specs.declared.refusal.Refusal.{Refusal}
use Rattle.bank.specs.declared.luminaire_write.LuminaireField.{LuminaireField}
use Rattle.bank.specs.Refusal.{first_of, checked}
use Rattle.bank.specs.Fields.{luminaire_fields}
use Rattle.bank.proofs.Checks.{refused_first, none_first, not_both, or_left, or_right, was_answered, was_refused}
use Rattle.records.specs.declared.luminaire_write.LuminaireNumbers.{LuminaireNumbers}
use Rattle.records.specs.declared.luminaire_write.Plan.{Plan}
use Rattle.records.specs.Writes.{wanted_number, is_for, gather, Store, offsets_of, values_of, stores_at, plan_stores}
use Rattle.records.specs.Plan.{field_checks, plan_checks, stores_of, lay_checks, planned, offsets_after, values_after}
use Rattle.records.specs.Steps.{WantedAt, NoneWanted}
use Rattle.records.proofs.Gathering.{gather_row, gather_room, gather_gap}
use Rattle.records.proofs.Laying.{front_laid, laid_further}
use Rattle.records.proofs.Table.{by_field, all_rows, within_bank}
use Rattle.records.proofs.Stages.{stores_few}
use Rattle.records.proofs.Stores.{offsets_count, values_count}
use Rattle.records.proofs.Refusals.{field_passed}
use Rattle.records.proofs.Counting.{none_wanted, at_most_80}
use Rattle.records.proofs.Plans.{plan_accepted}

-- the stores of the first so many fields of the table
abbrev pub front : LuminaireNumbers → Option ℕ → List ℕ → ℕ → List Store
front m which text i = gather (stores_at m which text) (take i luminaire_fields)

-- the stores of a row come behind those of the fields before
module _ (m : LuminaireNumbers) (which : Option ℕ) (text : List ℕ) (i : ℕ) {f : LuminaireField} (e : slice_get luminaire_fields i ≡ Some f) where
  abbrev own : List Store
  own = stores_at m which text i f

  next : front m which text (i + 1) ≡ front m which text i ++ own
  next = gather_row (stores_at m which text) luminaire_fields i e

  pub next_count : length (front m which text (i + 1)) ≡ length (front m which text i) + length own
  next_count = ap length next ∙ length-append (front m which text i) own

  pub own_room : length (front m which text i) + length own ≤ length (plan_stores m which text)
  own_room = omega (arith, gather_room (stores_at m which text) luminaire_fields i e, ap length (by_field m which text))

  pub own_laid : (out : List Store) → sets (laid_into (front m which text i) out) (length (front m which text i)) own ≡ laid_into (front m which text (i + 1)) out
  own_laid out = laid_further (front m which text i) own out ∙ ap (λ (ss : List Store). laid_into ss out) (sym next)

pub all_front : (m : LuminaireNumbers) (which : Option ℕ) (text : List ℕ) → front m which text 18 ≡ plan_stores m which text
all_front m which text = ap (gather (stores_at m which text)) all_rows ∙ sym (by_field m which text)

none_where : {A : Type 0} (o : Option A) → is_some o ≡ false → o ≡ None
none_where None e = refl
none_where (Some x) e = absurd (true≢false e)

-- rows of which nothing is wanted have no stores, and no checks
module _ (m : LuminaireNumbers) (which : Option ℕ) (places : ℕ) {from to : ℕ} (at : WantedAt m which places) (none : NoneWanted places from to) (ahead : from ≤ to) where
  unwanted : (i : ℕ) {f : LuminaireField} → from ≤ i → i < to → slice_get luminaire_fields i ≡ Some f → (wanted_number m f.kind ≡ None) × (is_for which i ≡ false)
  unwanted i {f} h k e =
      let number = is_some (wanted_number m f.kind) in
      let neither : (number || is_for which i) ≡ false = sym (at i f e) ∙ none i h k in
      (none_where (wanted_number m f.kind) (or_left number (is_for which i) neither), or_right number (is_for which i) neither)

  pub same_front : (text : List ℕ) → front m which text to ≡ front m which text from
  same_front text =
      gather_gap (stores_at m which text) luminaire_fields from to ahead (λ i f h k e.
      let u = unwanted i h k e in
      none_wanted m which text i f u.0 u.1)

module _ (p : Plan) (text : List ℕ) (places : ℕ) (at : WantedAt p.numbers p.text_field places) where
  pub still_passed : {from to : ℕ} → NoneWanted places from to → from ≤ to → first_of (gather (field_checks p text) (take from luminaire_fields)) ≡ None
      → first_of (gather (field_checks p text) (take to luminaire_fields)) ≡ None
  still_passed {from} {to} none ahead passed =
      rw (gather_gap (field_checks p text) luminaire_fields from to ahead (λ i f h k e.
      let u = unwanted p.numbers p.text_field places at none ahead i h k e in
      rw (u.0, u.1) refl))
      passed

-- in a loop that counts: no check of a row applies, and its stores are counted
pub record Turn (p : Plan) (text : List ℕ) (i own : ℕ) : Type 0 where
  pub passed : first_of (gather (field_checks p text) (take (i + 1) luminaire_fields)) ≡ None
  pub few : own ≤ 61
  pub counted : length (front p.numbers p.text_field text (i + 1)) ≡ length (front p.numbers p.text_field text i) + own

pub own_counted : (p : Plan) (text : List ℕ) (i : ℕ) {f : LuminaireField} {own : ℕ} → slice_get luminaire_fields i ≡ Some f
    → first_of (gather (field_checks p text) (take i luminaire_fields)) ≡ None
    → checked (field_checks p text i f) Err (Ok (length (stores_at p.numbers p.text_field text i f))) ≡ Ok own → Turn p text i own
own_counted p text i {f} e before counted =
    let told = was_answered (field_checks p text i f) (length (stores_at p.numbers p.text_field text i f)) counted in
    record {
      passed = field_passed (field_checks p text) i e before told.0;
      few = omega (arith, told.1, stores_few p.numbers p.text_field text i f, (within_bank i e).few);
      counted = next_count p.numbers p.text_field text i e ∙ ap (λ (n : ℕ). length (front p.numbers p.text_field text i) + n) (sym told.1);
    }

-- the first so many of a slice that they were laid into
pub front_is : {A : Type 0} (xs out : List A) {n : ℕ} → length xs ≡ n → n ≤ length out → take n (laid_into xs out) ≡ xs
front_is {A} xs out {n} e h =
    ap (λ (k : ℕ). take k (laid_into xs out)) (sym e)
    ∙ ap (take (length xs)) (sym (sets_laid xs out))
    ∙ front_laid xs out (omega (arith, e, h))

-- an accepted plan: how many stores there are, and where they stand
pub record AcceptedPlan (p : Plan) (text : List ℕ) (n : ℕ) (os vs : List ℕ) : Type 0 where
  pub sound : first_of (plan_checks p text) ≡ None
  pub count : n ≡ length (stores_of p text)
  pub offsets : take n os ≡ offsets_of (stores_of p text)
  pub values : take n vs ≡ values_of (stores_of p text)

module _ (p : Plan) (text os vs : List ℕ) (room_os : 80 ≤ length os) (room_vs : 80 ≤ length vs) where
  -- whatever it answers, 13 aside
  pub told_accepted : {e : (Result ℕ Refusal)} {n : ℕ} {os' vs' : List ℕ} → e ≡ planned p text os vs → os' ≡ offsets_after p text os vs → vs' ≡ values_after p text os vs → e ≡ Ok n → AcceptedPlan p text n os' vs'
  unfolding planned
  told_accepted {e} {n} {os'} {vs'} a b d t =
      let ss = stores_of p text in
      let told = was_answered (lay_checks p text os vs) (length ss) (sym a ∙ t) in
      let sound = none_first (plan_checks p text) _ told.0 in
      let few = at_most_80 p text sound in
      let done = plan_accepted p text os vs sound (omega (arith, few, room_os)) (omega (arith, few, room_vs)) refl refl refl in
      record {
        sound = sound;
        count = told.1;
        offsets = ap (take n) (b ∙ sym done.1.0) ∙ front_is (offsets_of ss) os (offsets_count ss ∙ sym told.1) (omega (arith, told.1, few, room_os));
        values = ap (take n) (d ∙ sym done.1.1) ∙ front_is (values_of ss) vs (values_count ss ∙ sym told.1) (omega (arith, told.1, few, room_vs));
      }

  pub told_refused : {e : (Result ℕ Refusal)} {r : Refusal} → e ≡ planned p text os vs → e ≡ Err r → first_of (plan_checks p text) ≡ Some r
  unfolding planned
  told_refused {e} {r} a t = go (first_of (plan_checks p text)) refl
    where
      told : first_of (lay_checks p text os vs) ≡ Some r
      told = was_refused (lay_checks p text os vs) (length (stores_of p text)) (sym a ∙ t)

      go : (o : Option Refusal) → first_of (plan_checks p text) ≡ o → first_of (plan_checks p text) ≡ Some r
      go (Some q) s = s ∙ sym (refused_first (plan_checks p text) _ s) ∙ told
      go None s =
          let few = at_most_80 p text s in
          let done = plan_accepted p text os vs s (omega (arith, few, room_os)) (omega (arith, few, room_vs)) refl refl refl in
          not_both (done.0 ∙ sym a ∙ t)

-- how far the slices go
module _ {p : Plan} {text : List ℕ} {n : ℕ} {os vs : List ℕ} (a : AcceptedPlan p text n os vs) where
  pub accepted_few : n ≤ 80
  accepted_few = omega (arith, a.count, at_most_80 p text a.sound)

  pub offsets_fit : n ≤ length os
  offsets_fit = omega (arith, sym (length-take n os) ∙ ap length a.offsets ∙ offsets_count (stores_of p text) ∙ sym a.count)

  pub values_fit : n ≤ length vs
  values_fit = omega (arith, sym (length-take n vs) ∙ ap length a.values ∙ values_count (stores_of p text) ∙ sym a.count)
