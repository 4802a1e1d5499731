-- Each record follows its bank's map: antt computes both lists, with an earlier record and without. The rest is said of any
-- members that are dated.
-- Assumes nothing.
use Rattle.std.specs.Prelude.{None, Option, ℤ, Some, is_none, is_some, option_map, slice_get}
use Rattle.std.specs.List.{list_all}
use Rattle.std.proofs.lemmas.Option.{same_Some}
use mathlib.Core.Path.{◌≡◌, refl, sym, ap, ◌∙◌}
use mathlib.Core.Bool.{Bool, true, false, cond}
use mathlib.Core.List.{List, [], ◌∷◌, map}
use Prim.Native.Nat.{ℕ, zero, suc}
use lib.ListN.{drop}
use Rattle.bus.specs.declared.ValueWidth.{ValueWidth}
use Rattle.bus.specs.declared.layout.BankField.{BankField}
use Rattle.bus.specs.Width.{signed, bytes_of}
use Rattle.bus.specs.Maps.{fields}
use Rattle.bus.proofs.Lists.{no_element}
use Rattle.bus.proofs.Tests.{first_true, second_true, no_yes, by_test}
use Rattle.records.specs.declared.attributes.BankReading.{BankReading}
use Rattle.records.specs.Places.{field_at, byte_at, scale_at, reading_at}
use Rattle.records.specs.Since.{dated}
use Rattle.records.specs.Records.{Said, a_byte, a_scale, a_reading, energy, gear, source, maintenance, map_for, members_before, by_map, said_by, reading_in, dated_said, dated_by, no_reading, timeless, timeless_said, EveryRecordFollowsItsMap, AbsentAsEmpty, TimeWhereUnavailable, OthersAsBefore}
use Rattle.records.proofs.Since.{by_option}

pub every_record_follows_its_map : EveryRecordFollowsItsMap
unfolding dated_by
every_record_follows_its_map start bytes now_ms (energy e) = by_option e (λ h. rw h) (λ x h. rw h)
every_record_follows_its_map start bytes now_ms (gear e) = by_option e (λ h. rw h) (λ x h. rw h)
every_record_follows_its_map start bytes now_ms (source e) = by_option e (λ h. rw h) (λ x h. rw h)
every_record_follows_its_map start bytes now_ms (maintenance e) = by_option e (λ h. rw h) (λ x h. rw h)

none_is : {A : Type 0} (o : Option A) → is_none o ≡ true → o ≡ None
none_is None h = refl
none_is (Some x) h = absurd (no_yes h)

-- a reading with its time
module _ (now_ms : ℕ) (e : Option BankReading) where
  has_time : (r : BankReading) → is_some (dated now_ms e r).tmask_since_ms ≡ (dated now_ms e r).temporarily_unavailable
  has_time r = by_test r.temporarily_unavailable (λ u. rw u) (λ u. rw u)

  has_time_in : (x : Option BankReading) {r : BankReading} → option_map (dated now_ms e) x ≡ Some r → is_some r.tmask_since_ms ≡ r.temporarily_unavailable
  has_time_in (Some q) {r} h =
      let same : dated now_ms e q ≡ r = same_Some _ _ h in
      rw (sym same) (has_time q)
  has_time_in None h = no_element h

  without_time : (x : Option BankReading) → option_map timeless (option_map (dated now_ms e) x) ≡ option_map timeless x
  without_time (Some q) = refl
  without_time None = refl

-- and as a member
module _ (now_ms : ℕ) where
  member_has_time : (e : Option BankReading) (m : Said) {r : BankReading} → dated_said now_ms e m ≡ a_reading (Some r) → is_some r.tmask_since_ms ≡ r.temporarily_unavailable
  member_has_time e (a_byte b) h = absurd cc
  member_has_time e (a_scale z) h = absurd cc
  member_has_time e (a_reading x) h = has_time_in now_ms e x (ap reading_in h)

  member_without_time : (e : Option BankReading) (m : Said) → timeless_said (dated_said now_ms e m) ≡ timeless_said m
  member_without_time e (a_byte b) = refl
  member_without_time e (a_scale z) = refl
  member_without_time e (a_reading x) = ap a_reading (without_time now_ms e x)

  each_has_time : (es ms : List Said) (i : ℕ) {r : BankReading} → slice_get (dated_by now_ms es ms) i ≡ Some (a_reading (Some r)) → is_some r.tmask_since_ms ≡ r.temporarily_unavailable
  unfolding dated_by
  each_has_time es [] i h = no_element h
  each_has_time [] (m ∷ ms) zero h = member_has_time None m (same_Some _ _ h)
  each_has_time [] (m ∷ ms) (suc i) h = each_has_time [] ms i h
  each_has_time (e ∷ es) (m ∷ ms) zero h = member_has_time (reading_in e) m (same_Some _ _ h)
  each_has_time (e ∷ es) (m ∷ ms) (suc i) h = each_has_time es ms i h

  each_without_time : (es ms : List Said) → map timeless_said (dated_by now_ms es ms) ≡ map timeless_said ms
  unfolding dated_by
  each_without_time es [] = refl
  each_without_time [] (m ∷ ms) = rw (member_without_time None m, each_without_time [] ms)
  each_without_time (e ∷ es) (m ∷ ms) = rw (member_without_time (reading_in e) m, each_without_time es ms)

  nothing_earlier : (es ms : List Said) → list_all no_reading es ≡ true → dated_by now_ms es ms ≡ dated_by now_ms [] ms
  unfolding dated_by
  nothing_earlier es [] h = refl
  nothing_earlier [] (m ∷ ms) h = refl
  nothing_earlier (e ∷ es) (m ∷ ms) h =
      let here = none_is (reading_in e) (first_true (no_reading e) (list_all no_reading es) h) in
      rw (here, nothing_earlier es ms (second_true (no_reading e) (list_all no_reading es) h))

pub absent_as_empty : AbsentAsEmpty
absent_as_empty start bytes now_ms e empty same absent none =
    every_record_follows_its_map start bytes now_ms e
    ∙ rw (absent, same) (sym (nothing_earlier now_ms (members_before empty) (by_map start bytes (map_for empty)) none))
    ∙ sym (every_record_follows_its_map start bytes now_ms empty)

pub time_where_unavailable : TimeWhereUnavailable
time_where_unavailable start bytes now_ms e i r h =
    let ms = by_map start bytes (map_for e) in
    each_has_time now_ms (members_before e) ms i (ap (λ (l : List Said). slice_get l i) (sym (every_record_follows_its_map start bytes now_ms e)) ∙ h)

-- what a map says has no time
either_timeless : (b : Bool) (z : Option ℤ) (x : Option BankReading) → option_map timeless x ≡ x → timeless_said (cond b (a_scale z) (a_reading x)) ≡ cond b (a_scale z) (a_reading x)
either_timeless true z x h = refl
either_timeless false z x h = ap a_reading h

module _ (start : ℕ) (bytes : List ℕ) where
  place_timeless : (o : ℕ) (w : ValueWidth) → option_map timeless (reading_at start bytes o w) ≡ reading_at start bytes o w
  place_timeless o w = by_option (field_at start bytes o (bytes_of w)) (λ h. rw h) (λ bs h. rw h)

  field_timeless : (f : BankField) → timeless_said (said_by start bytes f) ≡ said_by start bytes f
  field_timeless f =
      let x = reading_at start bytes f.offset f.width in
      either_timeless (signed f.width) (scale_at start bytes f.offset) x (place_timeless f.offset f.width)

  fields_timeless : (fs : List BankField) → map timeless_said (map (said_by start bytes) fs) ≡ map (said_by start bytes) fs
  fields_timeless [] = refl
  fields_timeless (f ∷ fs) = rw (field_timeless f, fields_timeless fs)

pub others_as_before : OthersAsBefore
others_as_before start bytes now_ms =
    record {
      in_record = λ e.
          ap (map timeless_said) (every_record_follows_its_map start bytes now_ms e)
          ∙ each_without_time now_ms (members_before e) (by_map start bytes (map_for e))
          ∙ ap (λ (ms : List Said). a_byte (byte_at start bytes 0x03) ∷ ms) (fields_timeless start bytes (drop 4 (fields (map_for e))));
      in_place = λ e o w. without_time now_ms e (reading_at start bytes o w) ∙ place_timeless start bytes o w;
    }
