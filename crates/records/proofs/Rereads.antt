-- Over lists of reads of a bank, each reading of a record is that of its place, by induction over the reads.
-- Assumes nothing.
use Rattle.std.specs.Prelude.{Option, Some, option_and_then, option_map, slice_get}
use Rattle.std.proofs.lemmas.Option.{same_Some}
use mathlib.Core.Path.{◌≡◌, refl, ap, ◌∙◌}
use mathlib.Core.Bool.{Bool, false, cond}
use mathlib.Core.List.{List, [], ◌∷◌, map}
use Prim.Native.Nat.{ℕ, zero, suc}
use lib.ListN.{drop}
use Rattle.bus.specs.declared.layout.BankField.{BankField}
use Rattle.bus.specs.declared.layout.BankMap.{BankMap}
use Rattle.bus.specs.Width.{signed}
use Rattle.bus.specs.Maps.{fields}
use Rattle.bus.proofs.Lists.{no_element}
use Rattle.records.specs.declared.attributes.BankReading.{BankReading}
use Rattle.records.specs.Places.{scale_at, reading_at}
use Rattle.records.specs.Since.{dated, reading_after, Read, last_reading}
use Rattle.records.specs.Records.{Said, a_scale, a_reading, Earlier, record_after, last_record, reading_in_record, members_after, EveryRecordReadsItsPlaces, energy, gear, source, maintenance, map_for, members_before, by_map, said_by, reading_in, dated_by}
use Rattle.records.proofs.Records.{every_record_follows_its_map}

-- a member that is a reading, among the members that are dated
get_dated : (now_ms : ℕ) (es ms : List Said) (i : ℕ) (x : Option BankReading) → slice_get ms i ≡ Some (a_reading x)
    → option_and_then reading_in (slice_get (dated_by now_ms es ms) i) ≡ option_map (dated now_ms (option_and_then reading_in (slice_get es i))) x
unfolding dated_by
get_dated now_ms es [] i x h = no_element h
get_dated now_ms [] (m ∷ ms) zero x h = rw (same_Some _ _ h)
get_dated now_ms [] (m ∷ ms) (suc i) x h = get_dated now_ms [] ms i x h
get_dated now_ms (e ∷ es) (m ∷ ms) zero x h = rw (same_Some _ _ h)
get_dated now_ms (e ∷ es) (m ∷ ms) (suc i) x h = get_dated now_ms es ms i x h

get_map : {A B : Type 0} (g : A → B) (xs : List A) (i : ℕ) {x : A} → slice_get xs i ≡ Some x → slice_get (map g xs) i ≡ Some (g x)
get_map g [] i h = no_element h
get_map g (y ∷ ys) zero h = ap (option_map g) h
get_map g (y ∷ ys) (suc i) h = get_map g ys i h

same_map : (r : Read) (e : Earlier) → map_for (record_after r e) ≡ map_for e
same_map r (energy e) = refl
same_map r (gear e) = refl
same_map r (source e) = refl
same_map r (maintenance e) = refl

next_members : (r : Read) (e : Earlier) → members_before (record_after r e) ≡ members_after r.start r.bytes r.now_ms e
next_members r (energy e) = refl
next_members r (gear e) = refl
next_members r (source e) = refl
next_members r (maintenance e) = refl

module _ (i : ℕ) (f : BankField) (unsigned : signed f.width ≡ false) where
  after_one : (r : Read) (e : Earlier) → slice_get (drop 4 (fields (map_for e))) i ≡ Some f
      → reading_in_record (record_after r e) i ≡ reading_after r.start r.bytes r.now_ms (reading_in_record e i) f.offset f.width
  after_one r e h =
      let said : said_by r.start r.bytes f ≡ a_reading (reading_at r.start r.bytes f.offset f.width) =
      ap (λ (b : Bool). cond b (a_scale (scale_at r.start r.bytes f.offset)) (a_reading (reading_at r.start r.bytes f.offset f.width))) unsigned in
      let ms = by_map r.start r.bytes (map_for e) in
      let here : slice_get ms (suc i) ≡ Some (a_reading (reading_at r.start r.bytes f.offset f.width)) =
      get_map (said_by r.start r.bytes) (drop 4 (fields (map_for e))) i h ∙ ap Some said in
      ap (λ (l : List Said). option_and_then reading_in (slice_get l (suc i))) (next_members r e ∙ every_record_follows_its_map r.start r.bytes r.now_ms e)
      ∙ get_dated r.now_ms (members_before e) ms (suc i) (reading_at r.start r.bytes f.offset f.width) here

  after_all : (rs : List Read) (e : Earlier) → slice_get (drop 4 (fields (map_for e))) i ≡ Some f
      → reading_in_record (last_record e rs) i ≡ last_reading f.offset f.width (reading_in_record e i) rs
  unfolding last_record last_reading
  after_all [] e h = refl
  after_all (r ∷ rs) e h =
      after_all rs (record_after r e) (ap (λ (m : BankMap). slice_get (drop 4 (fields m)) i) (same_map r e) ∙ h)
      ∙ ap (λ (o : Option BankReading). last_reading f.offset f.width o rs) (after_one r e h)

pub every_record_reads_its_places : EveryRecordReadsItsPlaces
every_record_reads_its_places e rs i f empty h unsigned =
    after_all i f unsigned rs e h
    ∙ ap (λ (l : List Said). last_reading f.offset f.width (option_and_then reading_in (slice_get l (suc i))) rs) empty
