-- `bus::encode_value` meets its contract: the low bytes are the last of all eight, and as many are copied as there is room for.
-- Assumes nothing.
use Rattle.std.proofs.Common.{◌≡◌, ◌∙◌, ap, ℕ, List, ◌++◌, ◌-◌, ◌≤◌, length, take, drop, w64, arith}
use Rattle.std.specs.Int.{to_be_bytes}
use native.Mathlib.Nat.{div-one}
use mathlib.Core.Logic.{◌⊎◌, inl, inr}
use borrow.Author.Tests.{leb-true, leb-false}
use lib.Dec.{leb}
use Rattle.bus.specs.declared.ValueWidth.{ValueWidth}
use Rattle.bus.specs.declared.ValueWidth.TheVariants.{U8, U16, U24, U32, U48, I8, I16, I32}
use Rattle.bus.specs.Number.{low_bytes}
use Rattle.bus.specs.Width.{bytes_of}
use Rattle.bus.proofs.Tests.{by_test}
use Rattle.bus.proofs.Lists.{laid_full}
use Rattle.bus.proofs.encode_value.Goals as goal

-- the last of the eight bytes, as they are lent
abbrev last : ℕ → List ℕ → List ℕ
last n bytes = take (8 - (8 - n)) (drop (8 - n) bytes)

last_low : (w : ValueWidth) (v : ℕ) → last (bytes_of w) (to_be_bytes w64 v) ≡ low_bytes (bytes_of w) v
unfolding low_bytes
last_low U8 v = rw div-one
last_low U16 v = rw div-one
last_low U24 v = rw div-one
last_low U32 v = rw div-one
last_low U48 v = rw div-one
last_low I8 v = rw div-one
last_low I16 v = rw div-one
last_low I32 v = rw div-one

pub returns : goal.returns
returns c =
    let a = c.args in
    let n = c.min-n.result in
    let low = low_bytes (bytes_of a.width) a.raw in
    let is_low : last c.bytes.result c.to_be_bytes-bytes.result ≡ low = rw (c.to_be_bytes-bytes.ensures, c.bytes.ensures) (last_low a.width a.raw) in
    let long = ap length is_low in
    let full : length low ≤ n ⊎ length a.out.now ≤ n =
    by_test (leb (length low) (length a.out.now))
    (λ t. inl (omega (arith, long, c.min-n.ensures, leb-true _ _ t)))
    (λ t. inr (omega (arith, long, c.min-n.ensures, leb-false _ _ t))) in
    ap (λ (r : List ℕ). r ++ drop n a.out.now) (c.copy_from_slice.ensures.after ∙ ap (take n) is_low)
    ∙ laid_full low a.out.now n full (omega (arith, long, c.min-n.ensures)) (omega (arith, long, c.min-n.ensures))
