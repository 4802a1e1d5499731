-- `bus::ValueWidth::to_signed` meets its contract: its range is that of the width, and the formula's law holds for any
-- number of bits.
-- Assumes nothing.
use mathlib.Core.Path.{◌≡◌, ap, ◌∙◌}
use Prim.Native.Nat.{ℕ, ◌+◌, ◌*◌, ◌/◌, ◌%◌, ◌^◌, ◌≤◌, ◌<◌}
use native.Mathlib.Nat.{mod-lt}
use native.Mathlib.Omega.{arith}
use lib.Pow.{pow_pos, pow_mono}
use lib.IntN.{pos, ◌-ℤ◌}
use mir.Facts.{to_z_pos, to_z-of_z}
use mir.Syntax.{w64}
use mir.Val.{to_z}
use Rattle.std.proofs.lemmas.Int.{ints}
use Rattle.bus.specs.declared.ValueWidth.{ValueWidth}
use Rattle.bus.specs.Width.{bits_of, to_signed}
use Rattle.bus.proofs.Width.{sized}
use Rattle.bus.proofs.Signed.{sign_without_branch}
use Rattle.bus.proofs.ValueWidth.to_signed.Goals as goal
use Rattle.bus.proofs.ValueWidth.to_signed.Goals.{After-power_of_two-range}

module _ (c : After-power_of_two-range) where
  abbrev Width : ValueWidth
  Width = c.args.self

  abbrev Raw : ℕ
  Raw = c.args.raw

  abbrev Range : ℕ
  Range = c.power_of_two-range.result

  abbrev Half : ℕ
  Half = Range / 2

  -- the range that the code computes is that of the width, of 8 to 48 bits
  range_is : Range ≡ 2 ^ bits_of Width
  range_is = c.power_of_two-range.ensures ∙ ap (λ (k : ℕ). 2 ^ (8 * k)) c.bytes.ensures

  some_bits : 1 ≤ bits_of Width
  some_bits = omega (arith, sized Width)

  small_range : Range < 2 ^ 63
  small_range =
      let few : bits_of Width ≤ 48 = omega (arith, sized Width) in
      omega (arith, range_is, pow_mono few)

  some_range : 0 < Range
  some_range = omega (arith, range_is, pow_pos (bits_of Width))

  remainder_small : (n : ℕ) → n % Range < 2 ^ 63
  remainder_small n = omega (arith, small_range, mod-lt n some_range)

  half_small : Half < 2 ^ 63
  half_small = omega (arith, small_range)

  meaning : to_z w64 ((Raw % Range + Half) % Range) -ℤ to_z w64 Half ≡ to_signed Width Raw
  meaning =
      rw (to_z_pos w64 (remainder_small (Raw % Range + Half)), to_z_pos w64 half_small)
      (ap (λ (r : ℕ). pos ((Raw % r + r / 2) % r) -ℤ pos (r / 2)) range_is ∙ sign_without_branch (bits_of Width) Raw some_bits)

pub overflow_sub-result : goal.overflow_sub-result
overflow_sub-result c =
    let at = (goal.at.overflow_sub-result c).After-power_of_two-range in
    omega (arith, ints, remainder_small at, half_small at)

pub returns : goal.returns
returns c = to_z-of_z (overflow_sub-result c) ∙ meaning (goal.at.returns c).After-power_of_two-range
