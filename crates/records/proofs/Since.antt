-- The time of an unavailable reading, after any earlier one and over any list of reads; and the two cases of an option.
-- Assumes nothing.
use Rattle.std.specs.Prelude.{None, Option, Some, option_map}
use Rattle.std.specs.List.{list_all}
use Rattle.std.proofs.lemmas.Option.{same_Some}
use mathlib.Core.Path.{◌≡◌, refl, ap, ◌∙◌}
use mathlib.Core.Bool.{true, false}
use mathlib.Core.List.{List, [], ◌∷◌, ◌++◌}
use Prim.Native.Nat.{ℕ}
use Rattle.bus.specs.declared.ValueWidth.{ValueWidth}
use Rattle.bus.specs.Number.{number}
use Rattle.bus.specs.Value.{classified}
use Rattle.bus.specs.Width.{bytes_of}
use Rattle.bus.proofs.Value.{no_mask_shown}
use Rattle.bus.proofs.Tests.{first_true, second_true, no_yes, by_test}
use Rattle.records.specs.declared.attributes.BankReading.{BankReading}
use Rattle.records.specs.Places.{field_at, reading_of, reading_at}
use Rattle.records.proofs.Places.{says}
use Rattle.records.specs.Since.{dated, is_unavailable, time_in, Read, finds_unavailable, after, last_reading, EveryReadingDatedExactly, SinceFirst, NoReadingShowsMask}

-- a value is there or not
pub by_option : {A P : Type 0} (o : Option A) → (o ≡ None → P) → ((x : A) → o ≡ Some x → P) → P
by_option None none some = none refl
by_option (Some x) none some = some x refl

-- what is read, if it is unavailable, after an earlier reading
module _ (now_ms : ℕ) where
  still : (e x : Option BankReading) → is_unavailable x ≡ true → is_unavailable (option_map (dated now_ms e) x) ≡ true
  still e (Some r) u = u
  still e None u = absurd (no_yes u)

  begins : (e x : Option BankReading) → is_unavailable x ≡ true → is_unavailable e ≡ false → time_in (option_map (dated now_ms e) x) ≡ Some now_ms
  begins (Some e) (Some r) u v = rw (u, v)
  begins None (Some r) u v = rw u
  begins e None u v = absurd (no_yes u)

  goes_on : {t : ℕ} (e x : Option BankReading) → is_unavailable x ≡ true → is_unavailable e ≡ true → time_in e ≡ Some t → time_in (option_map (dated now_ms e) x) ≡ Some t
  goes_on (Some e) (Some r) u v t = rw (u, v, t)
  goes_on None (Some r) u v t = absurd (no_yes v)
  goes_on e None u v t = absurd (no_yes u)

  anew : (e : BankReading) (x : Option BankReading) → is_unavailable x ≡ true → e.tmask_since_ms ≡ None → time_in (option_map (dated now_ms (Some e)) x) ≡ Some now_ms
  anew e (Some r) u t = by_test e.temporarily_unavailable (λ v. rw (u, v, t)) (λ v. rw (u, v))
  anew e None u t = absurd (no_yes u)

  has_none : (e x : Option BankReading) → is_unavailable x ≡ false → time_in (option_map (dated now_ms e) x) ≡ None
  has_none e (Some r) u = rw u
  has_none e None u = refl

module _ (o : ℕ) (w : ValueWidth) where
  abbrev found : Read → Option BankReading
  found r = reading_at r.start r.bytes o w

  found_so : (r : Read) → is_unavailable (found r) ≡ finds_unavailable o w r
  found_so r = by_option (field_at r.start r.bytes o (bytes_of w)) (λ h. rw h) (λ bs h. rw h (says w (number bs)).unavailable)

  behind : (e : Option BankReading) (before rest : List Read) → last_reading o w e (before ++ rest) ≡ last_reading o w (last_reading o w e before) rest
  unfolding last_reading
  behind e [] rest = refl
  behind e (r ∷ rs) rest = behind (after o w e r) rs rest

  kept : {t : ℕ} (e : Option BankReading) (run : List Read) → is_unavailable e ≡ true → time_in e ≡ Some t
      → list_all (finds_unavailable o w) run ≡ true → time_in (last_reading o w e run) ≡ Some t
  unfolding last_reading
  kept e [] u t all = t
  kept e (r ∷ rs) u t all =
      let here = found_so r ∙ first_true (finds_unavailable o w r) (list_all (finds_unavailable o w) rs) all in
      let rest = second_true (finds_unavailable o w r) (list_all (finds_unavailable o w) rs) all in
      kept (after o w e r) rs (still r.now_ms e (found r) here) (goes_on r.now_ms e (found r) here u t) rest

pub every_reading_dated_exactly : EveryReadingDatedExactly
every_reading_dated_exactly o w r =
    let x = found o w r in
    let same = found_so o w r in
    record {
      kept = λ e u v t. goes_on r.now_ms (Some e) x (same ∙ u) v t;
      after_other = λ e u v. begins r.now_ms (Some e) x (same ∙ u) v;
      after_timeless = λ e u t. anew r.now_ms e x (same ∙ u) t;
      first = λ u. begins r.now_ms None x (same ∙ u) refl;
      none = λ earlier u. has_none r.now_ms earlier x (same ∙ u);
    }

pub since_first : SinceFirst
unfolding last_reading
since_first o w before first run before_ends all =
    let e = last_reading o w None before in
    let here = found_so o w first ∙ first_true (finds_unavailable o w first) (list_all (finds_unavailable o w) run) all in
    let rest = second_true (finds_unavailable o w first) (list_all (finds_unavailable o w) run) all in
    ap time_in (behind o w None before (first ∷ run))
    ∙ kept o w (after o w e first) run (still first.now_ms e (found o w first) here) (begins first.now_ms e (found o w first) here before_ends) rest

pub no_reading_shows_mask : NoReadingShowsMask
no_reading_shows_mask start bytes now_ms earlier o w bs r v f e s =
    let read : Some (dated now_ms earlier (reading_of w (classified w (number bs)))) ≡ Some r = rw f at e in
    let same : dated now_ms earlier (reading_of w (classified w (number bs))) ≡ r = same_Some _ _ read in
    no_mask_shown w (number bs) v (ap (λ (q : BankReading). q.value) same ∙ s)
