-- What inner functions answer, of the reader of texts and of the plan; no outside call speaks of it.
-- Assumes nothing.
use Rattle.std.specs.Prelude.{◌≡◌, false, ◌||◌, ◌≤◌, ◌<◌, slice_get, cond, List, [], ◌∷◌, ◌++◌, ℕ, ◌+◌, min, leb, length, drop, is_some, None, Option, Some, option_map}
use Rattle.bank.specs.declared.luminaire_write.LuminaireField.{LuminaireField}
use Rattle.bank.specs.Fields.{luminaire_fields}
use Rattle.records.specs.declared.luminaire_write.LuminaireNumbers.{LuminaireNumbers}
use Rattle.records.specs.declared.memory_bank_parser.Pushed.{Pushed}
use Rattle.records.specs.Text.{piece, taken_len}
use Rattle.records.specs.Writes.{is_set, wanted_number, is_for, is_staged}

-- how many bytes of a piece enter a slice: all, or none
abbrev pub pushed_len : List ℕ → List ℕ → Option ℕ
pushed_len p out = cond (leb (length p) (length out)) (Some (length p)) None

-- and what the slice then holds
abbrev pub after_push : List ℕ → List ℕ → List ℕ
after_push p out = cond (leb (length p) (length out)) (p ++ drop (length p) out) out

-- how many bytes of a text were taken, and how many they became in a slice
abbrev pub pushed : List ℕ → List ℕ → Option Pushed
pushed [] out = None
pushed (b ∷ bs) out = option_map (λ n. record { taken = taken_len (b ∷ bs); len = n }) (pushed_len (piece (b ∷ bs)) out)

-- the places of the table where something is wanted, a bit for each
abbrev pub WantedAt : LuminaireNumbers → Option ℕ → ℕ → Type 0
WantedAt n which places =
    (i : ℕ) (f : LuminaireField) → slice_get luminaire_fields i ≡ Some f →
    is_set places i ≡ (is_some (wanted_number n f.kind) || is_for which i)

-- none of them is at a place from one on and below another
abbrev pub NoneWanted : ℕ → ℕ → ℕ → Type 0
NoneWanted places from to = (i : ℕ) → from ≤ i → i < to → is_set places i ≡ false

-- how many stores a write has, by how many bytes it has
abbrev pub count_of : LuminaireField → ℕ → ℕ
count_of f n = cond (is_staged f.kind n) (n + 1) n

-- that of the number that is wanted of a field
abbrev pub number_stores : LuminaireNumbers → LuminaireField → ℕ
number_stores n f = cond (is_some (wanted_number n f.kind)) f.len 0

-- and that of a text, by how many bytes the text has
abbrev pub text_stores : LuminaireField → ℕ → ℕ
text_stores f n = count_of f (min f.len (n + 1))
