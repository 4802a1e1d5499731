-- 01, "The records": what a raw number says at a width, read from a bank's bytes and written into them.
-- Assumes nothing.
use Rattle.std.specs.Prelude.{◌≡◌, Bool, true, false, cond, List, ◌++◌, ℕ, ◌+◌, ◌%◌, ◌^◌, ◌≤◌, ◌<◌, eqb, leb, length, take, drop, None, Option, Some, option_map}
use Rattle.bus.specs.declared.ValueWidth.{ValueWidth}
use Rattle.bus.specs.declared.BankValue.{BankValue}
use Rattle.bus.specs.declared.BankValue.TheVariants.{Reading, NotImplemented, TemporarilyUnavailable}
use Rattle.bus.specs.Number.{number, low_bytes}
use Rattle.bus.specs.Width.{bytes_of, bits_of, mask_of, tmask_of, max_valid_of}

-- "Masks": the number of each case of `BankValue`
abbrev pub raw_of : ValueWidth → BankValue → ℕ
raw_of w (Reading v) = v
raw_of w NotImplemented = mask_of w
raw_of w TemporarilyUnavailable = tmask_of w

-- what a raw number says: the mask and the one below it are no readings
abbrev pub classified : ValueWidth → ℕ → BankValue
classified w raw =
    cond (eqb raw (raw_of w NotImplemented)) NotImplemented
    (cond (eqb raw (raw_of w TemporarilyUnavailable)) TemporarilyUnavailable (Reading raw))

-- only a reading has a value
abbrev pub value_of : BankValue → Option ℕ
value_of (Reading v) = Some v
value_of NotImplemented = None
value_of TemporarilyUnavailable = None

-- the value that was read, if one was
abbrev pub value_in : Option BankValue → Option ℕ
value_in (Some b) = value_of b
value_in None = None

-- a value has no more bits than its width
abbrev pub FitsWidth : ValueWidth → Option ℕ → Type 0
FitsWidth w (Some v) = v < 2 ^ bits_of w
FitsWidth w None = Unit {0}

-- "not implemented"
abbrev pub is_not_implemented : BankValue → Bool
is_not_implemented (Reading v) = false
is_not_implemented NotImplemented = true
is_not_implemented TemporarilyUnavailable = false

-- "temporarily unavailable"
abbrev pub unavailable : BankValue → Bool
unavailable (Reading v) = false
unavailable NotImplemented = false
unavailable TemporarilyUnavailable = true

-- "two less is a saturated reading": it keeps its value
abbrev pub saturated : ValueWidth → BankValue → Bool
saturated w (Reading v) = eqb v (max_valid_of w)
saturated w NotImplemented = false
saturated w TemporarilyUnavailable = false

-- "a field not wholly present is absent": its bytes, so many from an offset on
abbrev pub bytes_at : ℕ → ℕ → List ℕ → Option (List ℕ)
bytes_at offset n bytes = cond (leb (offset + n) (length bytes)) (Some (take n (drop offset bytes))) None

-- what those of a width say
abbrev pub read_at : ValueWidth → ℕ → List ℕ → Option BankValue
read_at w offset bytes = option_map (λ bs. classified w (number bs)) (bytes_at offset (bytes_of w) bytes)

-- elements in the place of an output's first ones: a short output takes the leading ones, the rest of a long one is
-- unchanged
abbrev pub laid_into : {A : Type 0} → List A → List A → List A
laid_into xs out = take (length out) xs ++ drop (length xs) out

-- "`encode_value` (a short output takes the leading bytes)"
abbrev pub encoded : ValueWidth → ℕ → List ℕ → List ℕ
encoded w raw out = laid_into (low_bytes (bytes_of w) raw) out

-- No mask is shown as a number: a value is the raw number itself, and neither mask.
pub record NoMask (w : ValueWidth) (raw v : ℕ) : Type 0 where
  pub is_raw : v ≡ raw
  pub no_mask : v ≡ mask_of w → ⊥
  pub no_tmask : v ≡ tmask_of w → ⊥

abbrev pub NoMaskShown : Type 0
NoMaskShown = (w : ValueWidth) (raw v : ℕ) → value_of (classified w raw) ≡ Some v → NoMask w raw v

-- What is said of a raw number tells the number again: each case has its number.
abbrev pub EveryRawKept : Type 0
EveryRawKept = (w : ValueWidth) (raw : ℕ) → raw_of w (classified w raw) ≡ raw

-- What is written into an output that is long enough reads back as its low bytes say.
abbrev pub ReadsBack : Type 0
ReadsBack =
    (w : ValueWidth) (raw : ℕ) (out : List ℕ) →
    bytes_of w ≤ length out → read_at w 0 (encoded w raw out) ≡ Some (classified w (raw % 2 ^ bits_of w))
