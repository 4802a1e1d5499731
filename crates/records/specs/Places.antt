-- 01, "The records": what a place of a bank says, from given bytes of which the first stands at a start offset.
-- Assumes nothing.
use Rattle.std.specs.Prelude.{◌≡◌, Bool, true, false, cond, ◌&&◌, ◌||◌, List, [], ◌∷◌, ℕ, ◌+◌, ◌-◌, ◌≤◌, eqb, leb, ℤ, pos, neg_ℤ, take, drop, None, Option, Some, option_map}
use Rattle.std.specs.Int.Signed.{le_z}
use Rattle.bus.specs.declared.ValueWidth.{ValueWidth}
use Rattle.bus.specs.declared.BankValue.{BankValue}
use Rattle.bus.specs.Number.{number}
use Rattle.bus.specs.Width.{bytes_of, mask_of, tmask_of, max_valid_of, signed_meaning}
use Rattle.bus.specs.Value.{classified, value_of, is_not_implemented, unavailable, saturated, bytes_at}
use Rattle.records.specs.declared.attributes.BankReading.{BankReading}

-- "The parsers of 000 take bytes and a start offset; a field not wholly present is absent": the bytes of a field, so many
-- from an offset of its bank on
abbrev pub field_at : ℕ → List ℕ → ℕ → ℕ → Option (List ℕ)
field_at start bytes o n = cond (leb start o) (bytes_at (o - start) n bytes) None

abbrev pub is_there : {A : Type 0} → Option A → Bool
is_there None = false
is_there (Some x) = true

-- "Single identity bytes are raw, FF hex included."
abbrev pub byte_at : ℕ → List ℕ → ℕ → Option ℕ
byte_at start bytes o = option_map number (field_at start bytes o 1)

unfoldable pub all_ff : List ℕ → Bool
all_ff [] = true
all_ff (b ∷ bs) = eqb b 0xFF && all_ff bs

-- "GTIN and identification numbers of all FF hex are absent."
abbrev pub unless_ff : Option (List ℕ) → Option ℕ
unless_ff None = None
unless_ff (Some bs) = cond (all_ff bs) None (Some (number bs))

abbrev pub number_at : ℕ → List ℕ → ℕ → ℕ → Option ℕ
number_at start bytes o n = unless_ff (field_at start bytes o n)

-- "A reading says value, not implemented, temporarily unavailable, saturated": its bytes tell no time
abbrev pub reading_of : ValueWidth → BankValue → BankReading
reading_of w v =
    record {
      value = value_of v;
      not_implemented = is_not_implemented v;
      temporarily_unavailable = unavailable v;
      saturated = saturated w v;
      tmask_since_ms = None;
    }

-- the reading at an offset and a width
abbrev pub reading_at : ℕ → List ℕ → ℕ → ValueWidth → Option BankReading
reading_at start bytes o w = option_map (λ bs. reading_of w (classified w (number bs))) (field_at start bytes o (bytes_of w))

-- "Masks (DiiA 252)", by the number of the bytes: the mask is not implemented, "one less is temporarily unavailable, two less
-- is a saturated reading", and all but the first two are a value.
pub record SaysExactly (w : ValueWidth) (n : ℕ) (r : BankReading) : Type 0 where
  pub value : r.value ≡ cond (eqb n (mask_of w) || eqb n (tmask_of w)) None (Some n)
  pub not_implemented : r.not_implemented ≡ eqb n (mask_of w)
  pub unavailable : r.temporarily_unavailable ≡ eqb n (tmask_of w)
  pub saturated : r.saturated ≡ eqb n (max_valid_of w)

abbrev pub EveryReadingSaysExactly : Type 0
EveryReadingSaysExactly =
    (start : ℕ) (bytes : List ℕ) (o : ℕ) (w : ValueWidth) (bs : List ℕ) (r : BankReading) →
    field_at start bytes o (bytes_of w) ≡ Some bs → reading_at start bytes o w ≡ Some r → SaysExactly w (number bs) r

-- the value of a reading that is there and has one
abbrev pub value_read : Option BankReading → Option ℕ
value_read (Some r) = r.value
value_read None = None

-- "A scale is the signed meaning of its byte, present only from −6 to 6."
abbrev pub is_scale : ℤ → Bool
is_scale z = le_z (neg_ℤ (pos 6)) z && le_z z (pos 6)

abbrev pub scale_of : ℕ → Option ℤ
scale_of b = cond (is_scale (signed_meaning 8 b)) (Some (signed_meaning 8 b)) None

abbrev pub scale_in : Option ℕ → Option ℤ
scale_in None = None
scale_in (Some b) = scale_of b

abbrev pub scale_at : ℕ → List ℕ → ℕ → Option ℤ
scale_at start bytes o = scale_in (byte_at start bytes o)

-- A part of a bank, from the start offset on, has the bank's fields: one that is present in it is that of the bank, and
-- one of the bank that lies in it is present. (A field has a byte.)
pub record PartOf (bank : List ℕ) (start m o n : ℕ) : Type 0 where
  pub of_bank : {bs : List ℕ} → field_at start (take m (drop start bank)) o n ≡ Some bs → field_at 0 bank o n ≡ Some bs
  pub present :
      {bs : List ℕ} → start ≤ o → o + n ≤ start + m → field_at 0 bank o n ≡ Some bs →
      field_at start (take m (drop start bank)) o n ≡ Some bs

abbrev pub PartReadsAsBank : Type 0
PartReadsAsBank = (bank : List ℕ) (start m o n : ℕ) → 1 ≤ n → PartOf bank start m o n
