-- Laws of the signed meaning of a number of so many bits, and the theorems that the formula gives it and that its cases
-- hold.
-- Assumes nothing.
use mathlib.Core.Path.{◌≡◌, refl, ap, ◌∙◌}
use Prim.Native.Nat.{ℕ, zero, suc, ◌+◌, ◌-◌, ◌*◌, ◌/◌, ◌%◌, ◌^◌, ◌≤◌, ◌<◌}
use native.Mathlib.Nat.{not-suc-le-zero, mod-lt, mod-eq_of_lt, mod-eq-sub-mod}
use native.Mathlib.Omega.{arith}
use borrow.Author.Tests.{lt-ltb, le-ltb, ltb-true, ltb-false}
use lib.Dec.{ltb}
use lib.IntN.{pos, negsuc, ◌-ℤ◌, +ℤ-neg_ℤ_cancel}
use lib.Pow.{pow-add, pow_pos}
use lib.Signed.{mag}
use Rattle.bus.specs.Width.{signed_meaning, SignWithoutBranch}
use Rattle.bus.specs.SignedCases.{SignedCasesHold}
use Rattle.bus.proofs.Tests.{by_test}

-- a smaller number less a larger one
below_zero : (n r : ℕ) → n < r → pos n -ℤ pos r ≡ negsuc (r - suc n)
below_zero n zero h = absurd (not-suc-le-zero h)
below_zero n (suc m) h = rw (lt-ltb n (suc m) h)

module _ (bits n : ℕ) (positive : 1 ≤ bits) (in_range : n < 2 ^ bits) where
  abbrev Range : ℕ
  Range = 2 ^ bits

  abbrev Half : ℕ
  Half = Range / 2

  halves : Range ≡ Half + Half
  halves =
      let e : bits ≡ bits - 1 + 1 = omega arith in
      let even : Range ≡ 2 ^ (bits - 1) * 2 = ap (λ (k : ℕ). 2 ^ k) e ∙ pow-add 2 (bits - 1) 1 in
      omega arith

  by_half : {P : Type 0} → (n < Half → P) → (Half ≤ n → P) → P
  by_half low high = by_test (ltb n Half) (λ t. low (ltb-true n Half t)) (λ t. high (ltb-false n Half t))

  meaning_low : n < Half → signed_meaning bits n ≡ pos n
  meaning_low low = rw (lt-ltb n Half low)

  meaning_high : Half ≤ n → signed_meaning bits n ≡ negsuc (Range - suc n)
  meaning_high high = rw (le-ltb n Half high) (below_zero n Range in_range)

  -- the meaning of a number of so many bits fits a signed number of as many
  pub meaning_fits : mag (signed_meaning bits n) < Half
  meaning_fits = by_half (λ low. rw (meaning_low low) low) (λ high. rw (meaning_high high) (omega (arith, halves)))

  -- half the range added, the remainder taken, half the range taken away: below half the range the remainder is the sum
  -- itself, from it on what is left of the sum less the range
  formula_meaning : pos ((n + Half) % Range) -ℤ pos Half ≡ signed_meaning bits n
  formula_meaning =
      let two = halves in
      by_half
      (λ low.
      let sum : n + Half < Range = omega arith in
      rw (meaning_low low, mod-eq_of_lt sum) (+ℤ-neg_ℤ_cancel (pos n) (pos Half)))
      (λ high.
      let over : Range ≤ n + Half = omega arith in
      let left : n + Half - Range < Range = omega arith in
      let same : Half - suc (n + Half - Range) ≡ Range - suc n = omega arith in
      rw (meaning_high high, mod-eq-sub-mod over, mod-eq_of_lt left) (below_zero (n + Half - Range) Half (omega arith) ∙ ap negsuc same))

pub sign_without_branch : SignWithoutBranch
sign_without_branch bits n positive = formula_meaning bits (n % 2 ^ bits) positive (mod-lt n (pow_pos bits))

pub signed_cases_hold : SignedCasesHold
signed_cases_hold = refl
