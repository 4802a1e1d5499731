-- 02, F-5: since when a reading has been unavailable, by the present time and the earlier reading of its place, if any.
-- Assumes nothing.
use Rattle.std.specs.Prelude.{◌≡◌, Bool, true, false, cond, List, [], ◌∷◌, ◌++◌, ℕ, None, Option, Some, option_and_then, option_map, unwrap_or, eqb}
use Rattle.std.specs.Option.{option_map_or}
use Rattle.std.specs.List.{list_all}
use Rattle.bus.specs.declared.ValueWidth.{ValueWidth}
use Rattle.bus.specs.Number.{number}
use Rattle.bus.specs.Width.{bytes_of, tmask_of}
use Rattle.bus.specs.Value.{NoMask}
use Rattle.records.specs.declared.attributes.BankReading.{BankReading}
use Rattle.records.specs.Places.{field_at, reading_at}

-- "A reading that is unavailable after one that was too keeps the earlier time, if that one has a time, even if the clock
-- went back."
abbrev pub time_kept : Option BankReading → Option ℕ
time_kept earlier = option_and_then (λ e. cond e.temporarily_unavailable e.tmask_since_ms None) earlier

-- "Unavailable after anything else, after one without a time, or as the first, takes the present time"
abbrev pub since_when : ℕ → Option BankReading → ℕ
since_when now_ms earlier = unwrap_or (time_kept earlier) now_ms

-- "Any other reading has none."
abbrev pub time_of : ℕ → Option BankReading → BankReading → Option ℕ
time_of now_ms earlier r = cond r.temporarily_unavailable (Some (since_when now_ms earlier)) None

-- a reading with its time
abbrev pub dated : ℕ → Option BankReading → BankReading → BankReading
dated now_ms earlier r = record r { tmask_since_ms = time_of now_ms earlier r }

-- the reading at an offset and a width, after the earlier one
abbrev pub reading_after : ℕ → List ℕ → ℕ → Option BankReading → ℕ → ValueWidth → Option BankReading
reading_after start bytes now_ms earlier o w = option_map (dated now_ms earlier) (reading_at start bytes o w)

abbrev pub is_unavailable : Option BankReading → Bool
is_unavailable r = option_map_or (λ r. r.temporarily_unavailable) r false

abbrev pub time_in : Option BankReading → Option ℕ
time_in r = option_and_then (λ r. r.tmask_since_ms) r

-- a read of a place: the bytes with their start offset, and the present time
pub record Read : Type 0 where
  pub start : ℕ
  pub bytes : List ℕ
  pub now_ms : ℕ

-- the reads of one place, the first of them first
module _ (o : ℕ) (w : ValueWidth) where
  -- whether a read finds the place unavailable: by its bytes
  abbrev pub finds_unavailable : Read → Bool
  finds_unavailable r = option_map_or (λ bs. eqb (number bs) (tmask_of w)) (field_at r.start r.bytes o (bytes_of w)) false

  -- the reading of a read, after an earlier one
  abbrev pub after : Option BankReading → Read → Option BankReading
  after earlier r = reading_after r.start r.bytes r.now_ms earlier o w

  -- the last reading, each after the one before it
  unfoldable pub last_reading : Option BankReading → List Read → Option BankReading
  last_reading earlier [] = earlier
  last_reading earlier (r ∷ rs) = last_reading (after earlier r) rs

-- The same sentences, one by one. The earlier reading is any, also one that no parser made.
pub record DatedExactly (o : ℕ) (w : ValueWidth) (r : Read) : Type 0 where
  pub kept :
      (e : BankReading) {t : ℕ} → finds_unavailable o w r ≡ true → e.temporarily_unavailable ≡ true →
      e.tmask_since_ms ≡ Some t → time_in (after o w (Some e) r) ≡ Some t
  pub after_other :
      (e : BankReading) → finds_unavailable o w r ≡ true → e.temporarily_unavailable ≡ false →
      time_in (after o w (Some e) r) ≡ Some r.now_ms
  pub after_timeless :
      (e : BankReading) → finds_unavailable o w r ≡ true → e.tmask_since_ms ≡ None →
      time_in (after o w (Some e) r) ≡ Some r.now_ms
  pub first : finds_unavailable o w r ≡ true → time_in (after o w None r) ≡ Some r.now_ms
  pub none : (earlier : Option BankReading) → finds_unavailable o w r ≡ false → time_in (after o w earlier r) ≡ None

abbrev pub EveryReadingDatedExactly : Type 0
EveryReadingDatedExactly = (o : ℕ) (w : ValueWidth) (r : Read) → DatedExactly o w r

-- Over any list of reads of one place, the time of an unavailable reading is the present time of the first read of the
-- unbroken run of unavailable ones that it ends: before that one, `first`, there is no reading that is unavailable. (So a
-- clock that goes back changes nothing.)
abbrev pub SinceFirst : Type 0
SinceFirst =
    (o : ℕ) (w : ValueWidth) (before : List Read) (first : Read) (run : List Read) →
    is_unavailable (last_reading o w None before) ≡ false → list_all (finds_unavailable o w) (first ∷ run) ≡ true →
    time_in (last_reading o w None (before ++ (first ∷ run))) ≡ Some first.now_ms

-- No reading shows a mask: the value that it has is the number of its own bytes, and neither mask of its width.
abbrev pub NoReadingShowsMask : Type 0
NoReadingShowsMask =
    (start : ℕ) (bytes : List ℕ) (now_ms : ℕ) (earlier : Option BankReading) (o : ℕ) (w : ValueWidth) (bs : List ℕ)
    (r : BankReading) (v : ℕ) →
    field_at start bytes o (bytes_of w) ≡ Some bs → reading_after start bytes now_ms earlier o w ≡ Some r → r.value ≡ Some v →
    NoMask w (number bs) v
