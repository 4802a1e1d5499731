-- 01, "The read-out": "`chunk_len` (003, DiiA 252 §9.2.2)"; and the modes of 02, F-4.
-- Assumes nothing.
use Rattle.std.specs.Prelude.{◌≡◌, cond, ◌&&◌, List, [], ◌∷◌, ℕ, ◌+◌, ◌-◌, ◌≤◌, ◌<◌, min, max, eqb, leb, ltb, length, take, drop, None, Some, slice_get}
use Rattle.bus.specs.declared.layout.BankField.{BankField}
use Rattle.bus.specs.Width.{bytes_of}
use Rattle.bus.specs.Maps.{map_of, field_containing}
use Rattle.bank.specs.declared.layout.ChunkMode.{ChunkMode}
use Rattle.bank.specs.declared.layout.ChunkMode.TheVariants.{Plain, LampCurrent}

-- "whole fields from `offset` on": those from the one that starts there; none inside a field, and none past the map
unfoldable pub fields_from : ℕ → List BankField → List BankField
fields_from o [] = []
fields_from o (x ∷ xs) = cond (eqb x.offset o) (x ∷ xs) (fields_from o xs)

-- "each further one only while the sum stays within both budget and remaining": within the limit, the smaller of them
unfoldable pub with_further : ℕ → ℕ → List BankField → ℕ
with_further limit taken [] = taken
with_further limit taken (x ∷ xs) =
    cond (leb (taken + bytes_of x.width) limit) (with_further limit (taken + bytes_of x.width) xs) taken

-- "the first even if wider than the budget"; "From inside a field, past the map, or where the first field exceeds what
-- remains, it is the smaller of budget and remaining."
unfoldable pub whole_fields : ℕ → ℕ → List BankField → ℕ
whole_fields remaining limit [] = limit
whole_fields remaining limit (x ∷ xs) =
    cond (leb (bytes_of x.width) remaining) (with_further limit (bytes_of x.width) xs) limit

-- a rule for the length of a chunk, from bank, offset, remaining and budget
abbrev pub ChunkRule : Type 0
ChunkRule = ℕ → ℕ → ℕ → ℕ → ℕ

unfoldable pub chunk_len : ChunkRule
chunk_len bank offset remaining budget = whole_fields remaining (min budget remaining) (fields_from offset (map_of bank))

-- "at most what remains and at most the larger of budget and 6, and at least 1 if both are": both budget and remaining
pub record Bounded (chunk : ChunkRule) : Type 0 where
  pub within : (bank offset remaining budget : ℕ) → chunk bank offset remaining budget ≤ remaining
  pub few : (bank offset remaining budget : ℕ) → chunk bank offset remaining budget ≤ max budget 6
  pub some : (bank offset remaining budget : ℕ) → 1 ≤ remaining → 1 ≤ budget → 1 ≤ chunk bank offset remaining budget

abbrev pub ChunkLenBounded : Type 0
ChunkLenBounded = Bounded chunk_len

-- Where no whole field can be taken, the chunk is the smaller of budget and remaining.
pub record Smaller (bank o remaining budget : ℕ) : Type 0 where
  pub inside : {x : BankField} → field_containing bank o ≡ Some x → x.offset < o → chunk_len bank o remaining budget ≡ min budget remaining
  pub past : field_containing bank o ≡ None → chunk_len bank o remaining budget ≡ min budget remaining
  pub exceeds : {x : BankField} → field_containing bank o ≡ Some x → x.offset ≡ o → remaining < bytes_of x.width
      → chunk_len bank o remaining budget ≡ min budget remaining

abbrev pub SmallerElsewhere : Type 0
SmallerElsewhere = (bank o remaining budget : ℕ) → Smaller bank o remaining budget

-- the bytes of fields that lie one behind the other
abbrev pub total : List BankField → ℕ
total [] = 0
total (x ∷ xs) = bytes_of x.width + total xs

-- "It takes whole fields from `offset` on, the first even if wider than the budget, each further one only while the sum stays
-- within both budget and remaining": of the runs of fields from the first on, the longest within the limit, or the first field alone
pub record Longest (limit : ℕ) (fs : List BankField) (len : ℕ) : Type 0 where
  pub count : ℕ
  pub first : 1 ≤ count
  pub there : count ≤ length fs
  pub is_run : len ≡ total (take count fs)
  pub within : 2 ≤ count → len ≤ limit
  pub longest : (more : ℕ) → count < more → more ≤ length fs → limit < total (take more fs)

-- From the start of a field that does not exceed what remains, a chunk is that run of the fields from there.
abbrev pub LongestRun : Type 0
LongestRun =
    (bank remaining budget i : ℕ) (x : BankField) → slice_get (map_of bank) i ≡ Some x → bytes_of x.width ≤ remaining →
    Longest (min budget remaining) (drop i (map_of bank)) (chunk_len bank x.offset remaining budget)

-- ---- 02, F-4, "Lamp current in one read"

-- "Where the present answer would end between C0 and C1 hex, it is one byte shorter if it has more than one byte; a single
-- byte at C0 becomes two if two remain."
unfoldable pub lamp_whole : ℕ → ℕ → ℕ → ℕ
lamp_whole o remaining len =
    cond (eqb (o + len) 0xC1)
    (cond (ltb 1 len) (len - 1) (cond (eqb o 0xC0 && leb 2 remaining) 2 len))
    len

-- "a chunk mode for bank 1", where "the present answer" is `chunk_len`; it "looks only at the bank number"
unfoldable pub lamp_len : ChunkRule
lamp_len bank o remaining budget =
    cond (eqb bank 1) (lamp_whole o remaining (chunk_len bank o remaining budget)) (chunk_len bank o remaining budget)

-- the rule of each mode
abbrev pub chunk_in : ChunkMode → ChunkRule
chunk_in Plain = chunk_len
chunk_in LampCurrent = lamp_len

-- either has the bounds
abbrev pub EveryModeBounded : Type 0
EveryModeBounded = (mode : ChunkMode) → Bounded (chunk_in mode)

-- "for other banks it equals `chunk_len`", and so does the plain mode
pub record Same (bank o remaining budget : ℕ) : Type 0 where
  pub plain : chunk_in Plain bank o remaining budget ≡ chunk_len bank o remaining budget
  pub other_bank : (bank ≡ 1 → ⊥) → chunk_in LampCurrent bank o remaining budget ≡ chunk_len bank o remaining budget

abbrev pub SameElsewhere : Type 0
SameElsewhere = (bank o remaining budget : ℕ) → Same bank o remaining budget

-- What the mode makes of a present answer: "one byte shorter if it has more than one byte; a single byte at C0 becomes two if two
-- remain. All else equals `chunk_len`"
pub record Changed (o remaining present len : ℕ) : Type 0 where
  pub shorter : o + present ≡ 0xC1 → 2 ≤ present → len + 1 ≡ present
  pub two : o ≡ 0xC0 → present ≡ 1 → 2 ≤ remaining → len ≡ 2
  pub all_else : (o + present ≡ 0xC1 → present ≤ 1) → (o ≡ 0xC0 → present ≡ 1 → remaining < 2) → len ≡ present

abbrev pub ChangedExactly : Type 0
ChangedExactly =
    (o remaining budget : ℕ) → Changed o remaining (chunk_len 1 o remaining budget) (chunk_in LampCurrent 1 o remaining budget)
