-- 01, "The records", the paragraph "Masks (DiiA 252)", and "A scale is the signed meaning of its byte".
-- Assumes nothing.
use Rattle.std.specs.Prelude.{◌≡◌, Bool, true, false, cond, List, [], ◌∷◌, map, ℕ, ◌+◌, ◌-◌, ◌*◌, ◌/◌, ◌%◌, ◌^◌, ◌≤◌, ltb, ℤ, pos, ◌-ℤ◌}
use Rattle.bus.specs.declared.ValueWidth.{ValueWidth}
use Rattle.bus.specs.declared.ValueWidth.TheVariants.{U8, U16, U24, U32, U48, I8, I16, I32}

-- `ValueWidth`, the widths of a bank's values: their bytes
abbrev pub bytes_of : ValueWidth → ℕ
bytes_of U8 = 1
bytes_of U16 = 2
bytes_of U24 = 3
bytes_of U32 = 4
bytes_of U48 = 6
bytes_of I8 = 1
bytes_of I16 = 2
bytes_of I32 = 4

-- and which of them are signed
abbrev pub signed : ValueWidth → Bool
signed U8 = false
signed U16 = false
signed U24 = false
signed U32 = false
signed U48 = false
signed I8 = true
signed I16 = true
signed I32 = true

-- "the width" of the masks, in bits
abbrev pub bits_of : ValueWidth → ℕ
bits_of w = 8 * bytes_of w

-- of a signed width one bit is the sign's
abbrev pub sign_bits : ValueWidth → ℕ
sign_bits w = cond (signed w) 1 0

-- "2 to the width less 1 unsigned; 7F, 7FFF, 7FFFFFFF hex signed"
abbrev pub mask_of : ValueWidth → ℕ
mask_of w = 2 ^ (bits_of w - sign_bits w) - 1

-- The formula gives the signed masks that are named there.
abbrev pub SignedMasks : Type 0
SignedMasks = map mask_of (I8 ∷ I16 ∷ I32 ∷ []) ≡ 0x7F ∷ 0x7FFF ∷ 0x7FFFFFFF ∷ []

-- "2 to the width less 1 unsigned": no bit of theirs is a sign's
abbrev unsigned : List ValueWidth
unsigned = U8 ∷ U16 ∷ U24 ∷ U32 ∷ U48 ∷ []

abbrev pub UnsignedMasks : Type 0
UnsignedMasks = map mask_of unsigned ≡ map (λ w. 2 ^ bits_of w - 1) unsigned

-- "One less is temporarily unavailable"
abbrev pub tmask_of : ValueWidth → ℕ
tmask_of w = mask_of w - 1

-- "two less is a saturated reading"
abbrev pub max_valid_of : ValueWidth → ℕ
max_valid_of w = mask_of w - 2

-- the signed meaning of a number of so many bits: from half its range on it is below zero
abbrev pub signed_meaning : ℕ → ℕ → ℤ
signed_meaning bits n = cond (ltb n (2 ^ bits / 2)) (pos n) (pos n -ℤ pos (2 ^ bits))

-- the signed meaning of the low bytes of any number: those above the width count nothing
abbrev pub to_signed : ValueWidth → ℕ → ℤ
to_signed w raw = signed_meaning (bits_of w) (raw % 2 ^ bits_of w)

-- 02, F-6: "take the remainder by the range .., add half the range, take the remainder by the range again, subtract half
-- the range"
abbrev pub sign_formula : ℕ → ℕ → ℤ
sign_formula bits n = pos ((n % 2 ^ bits + 2 ^ bits / 2) % 2 ^ bits) -ℤ pos (2 ^ bits / 2)

-- "the answer is the signed meaning of the first remainder": for any number of bits, from 1 on, and of any number
abbrev pub SignWithoutBranch : Type 0
SignWithoutBranch = (bits n : ℕ) → 1 ≤ bits → sign_formula bits n ≡ signed_meaning bits (n % 2 ^ bits)
