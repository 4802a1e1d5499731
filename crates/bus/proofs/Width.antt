-- Laws over the width: a value has 1 to 6 bytes, the signed masks are those named, and no mask is below 7F hex.
-- Assumes nothing.
use mathlib.Core.Path.{refl}
use mathlib.Core.Bool.{Bool, ◌&&◌}
use Prim.Native.Nat.{◌≤◌}
use lib.Dec.{T, leb, leb→le}
use Rattle.bus.specs.declared.ValueWidth.{ValueWidth}
use Rattle.bus.specs.declared.ValueWidth.TheVariants.{U8, U16, U24, U32, U48, I8, I16, I32}
use Rattle.bus.specs.Width.{bytes_of, mask_of, SignedMasks, UnsignedMasks}
use Rattle.bus.proofs.Tests.{and_left, and_right}

-- a test that holds of each width in the table holds of a width
every : (p : ValueWidth → Bool) → T (p U8) → T (p U16) → T (p U24) → T (p U32) → T (p U48) → T (p I8) → T (p I16) → T (p I32) → (w : ValueWidth) → T (p w)
every p a b c d e f g h U8 = a
every p a b c d e f g h U16 = b
every p a b c d e f g h U24 = c
every p a b c d e f g h U32 = d
every p a b c d e f g h U48 = e
every p a b c d e f g h I8 = f
every p a b c d e f g h I16 = g
every p a b c d e f g h I32 = h

-- a value has 1 to 6 bytes
pub record Sized (w : ValueWidth) : Type 0 where
  pub some : 1 ≤ bytes_of w
  pub few : bytes_of w ≤ 6

pub sized : (w : ValueWidth) → Sized w
sized w =
    let t : T (leb 1 (bytes_of w) && leb (bytes_of w) 6) = every (λ v. leb 1 (bytes_of v) && leb (bytes_of v) 6) tt tt tt tt tt tt tt tt w in
    record {
      some = leb→le 1 (bytes_of w) (and_left (leb 1 (bytes_of w)) (leb (bytes_of w) 6) t);
      few = leb→le (bytes_of w) 6 (and_right (leb 1 (bytes_of w)) (leb (bytes_of w) 6) t);
    }

pub large_mask : (w : ValueWidth) → 0x7F ≤ mask_of w
large_mask w = leb→le 0x7F (mask_of w) (every (λ v. leb 0x7F (mask_of v)) tt tt tt tt tt tt tt tt w)

pub signed_masks : SignedMasks
signed_masks = refl

pub unsigned_masks : UnsignedMasks
unsigned_masks = refl
