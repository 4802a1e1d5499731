-- 02, F-6, "Every signed width of document 01 (1, 2 and 4 bytes)": cases around zero, half the range and the top, and of
-- raw numbers above the width. One table, which `proofs/Signed.antt` proves as a whole.
-- Assumes nothing.
use Rattle.std.specs.Prelude.{◌≡◌, List, [], ◌∷◌, map, ℕ, ◌-◌, ◌^◌, ℤ, pos, neg_ℤ}
use Rattle.bus.specs.declared.ValueWidth.{ValueWidth}
use Rattle.bus.specs.declared.ValueWidth.TheVariants.{I8, I16, I32}
use Rattle.bus.specs.Width.{to_signed}

-- a case: a width, a raw number, and its signed meaning
pub record SignedCase : Type 0 where
  pub width : ValueWidth
  pub raw : ℕ
  pub said : ℤ

abbrev plus : ValueWidth → ℕ → ℕ → SignedCase
plus w raw n = record { width = w; raw = raw; said = pos n }

abbrev minus : ValueWidth → ℕ → ℕ → SignedCase
minus w raw n = record { width = w; raw = raw; said = neg_ℤ (pos n) }

abbrev signed_cases : List SignedCase
signed_cases =
    plus I8 0x00 0
    ∷ plus I8 0x01 1
    ∷ plus I8 0x7F 127
    ∷ minus I8 0x80 128
    ∷ minus I8 0x81 127
    ∷ minus I8 0xFF 1
    ∷ plus I16 0x0000 0
    ∷ plus I16 0x0001 1
    ∷ plus I16 0x7FFF 32767
    ∷ minus I16 0x8000 32768
    ∷ minus I16 0x8001 32767
    ∷ minus I16 0xFFFF 1
    ∷ plus I32 0x0000_0000 0
    ∷ plus I32 0x0000_0001 1
    ∷ plus I32 0x7FFF_FFFF 2147483647
    ∷ minus I32 0x8000_0000 2147483648
    ∷ minus I32 0x8000_0001 2147483647
    ∷ minus I32 0xFFFF_FFFF 1
    -- above the width: only the low bytes count
    ∷ minus I8 0x0180 128
    ∷ minus I8 (2 ^ 64 - 1) 1
    ∷ minus I16 (2 ^ 64 - 1) 1
    ∷ minus I32 (2 ^ 64 - 1) 1
    ∷ []

abbrev pub SignedCasesHold : Type 0
SignedCasesHold = map (λ (c : SignedCase). to_signed c.width c.raw) signed_cases ≡ map (λ (c : SignedCase). c.said) signed_cases
