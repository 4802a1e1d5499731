-- `bus::number_of` meets its contract, by its invariant.
-- Assumes nothing.
use Rattle.std.proofs.Common.{◌≡◌, refl, sym, ap, ◌∙◌, ℕ, ◌+◌, ◌*◌, ◌^◌, ◌≤◌, ◌<◌, length, take, arith}
use lib.ListN.{get_or, length-take}
use lib.Seq.{take_all, get_or-take}
use lib.Pow.{pow_mono}
use Rattle.std.proofs.lemmas.List.{take_min}
use Rattle.bus.specs.Number as spec
use Rattle.bus.proofs.Number.{pow_byte, number_next}
use Rattle.bus.proofs.number_of.Goals as goal
use Rattle.bus.proofs.number_of.Goals.{In-loop-byte}

-- with one byte more the number stays within 64 bits
room : (c : In-loop-byte) → (2 ^ (8 * (c.loop-byte.byte-index + 1)) ≡ 2 ^ (8 * c.loop-byte.byte-index) * 256) × (2 ^ (8 * (c.loop-byte.byte-index + 1)) ≤ 2 ^ 64)
room c = (pow_byte c.loop-byte.byte-index, pow_mono {j = 64} (omega (arith, length-take c.min.result c.args.bytes.now)))

pub loop-byte-init : goal.loop-byte-init
unfolding spec.number
loop-byte-init c = (omega arith, refl)

pub overflow_mul-number : goal.overflow_mul-number
overflow_mul-number c = omega (arith, room (goal.at.overflow_mul-number c).In-loop-byte)

byte : (c : In-loop-byte) → get_or (take c.min.result c.args.bytes.now) c.loop-byte.byte-index 0 < 256
byte c =
    let in_front : c.loop-byte.byte-index < c.min.result = omega (arith, length-take c.min.result c.args.bytes.now) in
    rw (get_or-take c.min.result c.args.bytes.now c.loop-byte.byte-index 0 in_front) (omega (arith, c.type_inv.bytes c.loop-byte.byte-index))

pub overflow_add-number : goal.overflow_add-number
overflow_add-number c =
    let at = (goal.at.overflow_add-number c).In-loop-byte in
    omega (arith, room at, byte at)

pub loop-byte-preserved : goal.loop-byte-preserved
loop-byte-preserved c =
    let at = (goal.at.loop-byte-preserved c).In-loop-byte in
    let first = take c.min.result c.args.bytes.now in
    let i = c.loop-byte.byte-index in (
      omega (arith, room at, byte at),
      ap (λ (k : ℕ). k * 256 + get_or first i 0) c.loop-byte.invariant.1 ∙ sym (number_next first i c.loop-byte-test.true),
    )

pub returns : goal.returns
returns c =
    let bs = c.args.bytes.now in
    let first = take c.min.result bs in
    let i = c.loop-byte.byte-index in
    let bound : 2 ^ (8 * i) ≤ 2 ^ (8 * length bs) = pow_mono (omega (arith, length-take c.min.result bs)) in
    record {
      value =
          c.loop-byte.invariant.1
          ∙ ap spec.number (take_all i first c.loop-byte-test.false ∙ ap (λ (k : ℕ). take k bs) c.min.ensures ∙ take_min 8 bs);
      below = omega (arith, bound);
    }
