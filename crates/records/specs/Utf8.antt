-- Unicode, table 3-7, "Well-Formed UTF-8 Byte Sequences", to which 01, "The records", refers.
-- Assumes nothing.
use Rattle.std.specs.Prelude.{Bool, true, false, ◌&&◌, List, [], ◌∷◌, ℕ, suc, leb, length, Option, option_map}
use Rattle.bus.specs.Maps.{first_with}

-- the bytes from one to another
pub record Range : Type 0 where
  pub low : ℕ
  pub high : ℕ

abbrev pub to : ℕ → ℕ → Range
to a b = record { low = a; high = b }

-- a row of the table: the first byte, and the bytes behind it
pub record Row : Type 0 where
  pub first : Range
  pub further : List Range

abbrev row : Range → List Range → Row
row r rs = record { first = r; further = rs }

abbrev pub tail : Range
tail = to 0x80 0xBF

unfoldable pub table3_7 : List Row
table3_7 =
    row (to 0x00 0x7F) []
    ∷ row (to 0xC2 0xDF) (tail ∷ [])
    ∷ row (to 0xE0 0xE0) (to 0xA0 0xBF ∷ tail ∷ [])
    ∷ row (to 0xE1 0xEC) (tail ∷ tail ∷ [])
    ∷ row (to 0xED 0xED) (to 0x80 0x9F ∷ tail ∷ [])
    ∷ row (to 0xEE 0xEF) (tail ∷ tail ∷ [])
    ∷ row (to 0xF0 0xF0) (to 0x90 0xBF ∷ tail ∷ tail ∷ [])
    ∷ row (to 0xF1 0xF3) (tail ∷ tail ∷ tail ∷ [])
    ∷ row (to 0xF4 0xF4) (to 0x80 0x8F ∷ tail ∷ tail ∷ [])
    ∷ []

abbrev pub within : Range → ℕ → Bool
within r b = leb r.low b && leb b r.high

-- bytes begin with one of each range
unfoldable pub follow : List Range → List ℕ → Bool
follow [] bs = true
follow (r ∷ rs) [] = false
follow (r ∷ rs) (b ∷ bs) = within r b && follow rs bs

abbrev pub begins : List ℕ → Row → Bool
begins bytes r = follow (r.first ∷ r.further) bytes

-- the length of a row's sequences: the first byte, and those behind it
abbrev pub row_len : Row → ℕ
row_len r = suc (length r.further)

-- the length of the well-formed sequence that bytes begin with, if there is one
unfoldable pub sequence_len : List ℕ → Option ℕ
sequence_len bytes = option_map row_len (first_with (begins bytes) table3_7)
