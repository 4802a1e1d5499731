-- 01, head: "Multi-byte values have the high byte first."
-- Assumes nothing.
use Rattle.std.specs.Prelude.{List, [], ◌∷◌, ℕ, zero, suc, ◌+◌, ◌*◌, ◌/◌, ◌%◌, ◌^◌, length}

-- the number that bytes make: each byte counts 2 to the 8 for each byte behind it
unfoldable pub number : List ℕ → ℕ
number [] = 0
number (b ∷ bs) = b * 2 ^ (8 * length bs) + number bs

-- the n low bytes of a number
unfoldable pub low_bytes : ℕ → ℕ → List ℕ
low_bytes zero v = []
low_bytes (suc n) v = v / 2 ^ (8 * n) % 256 ∷ low_bytes n v
