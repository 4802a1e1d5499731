-- 01, "The records", the paragraph "Text ends at the first 00."; 02, F-8.
-- Assumes nothing.
use Rattle.std.specs.Prelude.{◌≡◌, Bool, true, false, cond, List, [], ◌∷◌, ◌++◌, ℕ, zero, suc, ◌+◌, ◌-◌, ◌/◌, ◌%◌, ◌≤◌, ◌<◌, min, eqb, leb, ltb, length, take, not, replicate, None, Option, Some, option_map, slice_get, unwrap_or}
use Rattle.std.specs.List.{concat, list_all}
use Rattle.bus.specs.declared.part251.TextRegion.{TextRegion}
use Rattle.bus.specs.Value.{bytes_at, laid_into}
use Rattle.bank.specs.Fields.{printable}
use Rattle.records.specs.declared.fixed_text.FixedText.{FixedText}
use Rattle.records.specs.Places.{field_at, is_there}
use Rattle.records.specs.Utf8.{sequence_len}

-- "Text ends at the first 00."
unfoldable pub until_zero : List ℕ → List ℕ
until_zero [] = []
until_zero (b ∷ bs) = cond (eqb b 0) [] (b ∷ until_zero bs)

abbrev pub hex_digit : ℕ → ℕ
hex_digit n = cond (ltb n 10) (0x30 + n) (0x41 + (n - 10))

-- "two upper-case hex digits"
abbrev pub hex_digits : ℕ → List ℕ
hex_digits b = hex_digit (b / 16) ∷ hex_digit (b % 16) ∷ []

-- "`\xNN`, NN being two upper-case hex digits"
abbrev pub escape : ℕ → List ℕ
escape b = 0x5C ∷ 0x78 ∷ hex_digits b

-- "At each place a well-formed UTF-8 sequence (Unicode, table 3-7) is copied and any other byte becomes `\xNN`": the
-- piece that stands for the bytes at the start of a text
abbrev pub piece : List ℕ → List ℕ
piece [] = []
piece (b ∷ bs) = unwrap_or (option_map (λ n. take n (b ∷ bs)) (sequence_len (b ∷ bs))) (escape b)

-- how many bytes a piece stands for: those of the sequence, or one
abbrev pub taken_len : List ℕ → ℕ
taken_len bytes = unwrap_or (sequence_len bytes) 1

-- the pieces of a text, behind so many bytes that belong to the piece before
unfoldable pub pieces_behind : ℕ → List ℕ → List (List ℕ)
pieces_behind skip [] = []
pieces_behind zero (b ∷ bs) = piece (b ∷ bs) ∷ pieces_behind (taken_len (b ∷ bs) - 1) bs
pieces_behind (suc skip) (b ∷ bs) = pieces_behind skip bs

abbrev pub pieces : List ℕ → List (List ℕ)
pieces bytes = pieces_behind 0 bytes

-- "copying stops at the first that doesn't fit .. and a part never enters"
unfoldable pub fitting : ℕ → List (List ℕ) → List ℕ
fitting room [] = []
fitting room (p ∷ ps) = cond (leb (length p) room) (p ++ fitting (room - length p) ps) []

-- what is shown of a text within a limit
abbrev pub escaped : ℕ → List ℕ → List ℕ
escaped limit bytes = fitting limit (pieces bytes)

-- "whether everything before the 00 was copied" (02, F-8): all pieces of the text fit the limit
abbrev pub copied_whole : ℕ → List ℕ → Bool
copied_whole limit bytes = leb (length (concat (pieces bytes))) limit

-- `FixedText<N>`: as many bytes as the limit says, which begin with the text; the others are 0
abbrev pub fixed : (limit : ℕ) → Bool → List ℕ → FixedText limit
fixed limit whole text = record { len = length text; whole = whole; bytes = laid_into text (replicate limit 0) }

-- a text that is there, whole
abbrev pub as_text : (limit : ℕ) → List ℕ → Option (FixedText limit)
as_text limit text = Some (fixed limit true text)

-- how many bytes a text may have within a limit: no more than its length, which has two bytes, can say
abbrev pub room_in : ℕ → ℕ
room_in limit = min limit 65535

-- a text as it is shown within its limit
abbrev pub shown_text : (limit : ℕ) → List ℕ → FixedText limit
shown_text limit bytes = fixed limit (copied_whole (room_in limit) bytes) (escaped (room_in limit) bytes)

-- "Each text .. carries this yes or no: .. no for an absent one" (02, F-8)
abbrev pub is_whole : {limit : ℕ} → Option (FixedText limit) → Bool
is_whole None = false
is_whole (Some text) = text.whole

abbrev before_zero : Option (List ℕ) → List ℕ
before_zero None = []
before_zero (Some region) = until_zero region

-- "`text_bytes` hands back the part of the caller's bank before the 00; for a region not wholly present the part is empty"
abbrev pub text_bytes : List ℕ → TextRegion → List ℕ
text_bytes bank t = before_zero (bytes_at t.offset t.len bank)

-- "and a yes or no of its own tells whether the region is present"
abbrev pub text_present : List ℕ → TextRegion → Bool
text_present bank t = is_there (bytes_at t.offset t.len bank)

-- what is shown of a region that may be lacking
abbrev pub text_in : (limit : ℕ) → Option (List ℕ) → Option (FixedText limit)
text_in limit region = option_map (λ bs. shown_text limit (until_zero bs)) region

-- a text field as it is shown, from given bytes and their start offset
abbrev pub text_region : ℕ → List ℕ → TextRegion → (limit : ℕ) → Option (FixedText limit)
text_region start bytes t limit = text_in limit (field_at start bytes t.offset t.len)

-- A text is never longer than its limit.
abbrev pub WithinLimit : Type 0
WithinLimit = (limit : ℕ) (bytes : List ℕ) → length (escaped limit bytes) ≤ limit

-- No limit that a length can say leaves less room than it says.
abbrev pub EveryLimitHasRoom : Type 0
EveryLimitHasRoom = (limit : ℕ) → limit ≤ 65535 → room_in limit ≡ limit

-- "Text ends at the first 00": at one, or where the bytes end, and no 00 stands before
pub record EndsAtZero (bytes : List ℕ) : Type 0 where
  pub behind : List ℕ
  pub parts : bytes ≡ until_zero bytes ++ behind
  pub at_zero : (b : ℕ) → slice_get behind 0 ≡ Some b → b ≡ 0
  pub none_before : list_all (λ b. not (eqb b 0)) (until_zero bytes) ≡ true

abbrev pub EveryTextEndsAtZero : Type 0
EveryTextEndsAtZero = (bytes : List ℕ) → EndsAtZero bytes

-- A text of bytes 20 to 7E hex for which there is room reads as itself, with a 00 behind it or with nothing.
abbrev pub PrintableReadsAsItself : Type 0
PrintableReadsAsItself =
    (limit : ℕ) (text behind : List ℕ) →
    printable text ≡ true → length text ≤ room_in limit → until_zero behind ≡ [] →
    text_in limit (Some (text ++ behind)) ≡ as_text limit text

-- A text whose first byte is 00 reads empty.
abbrev pub ZeroReadsEmpty : Type 0
ZeroReadsEmpty = (limit : ℕ) (behind : List ℕ) → text_in limit (Some (0 ∷ behind)) ≡ as_text limit []

-- ---- what is shown of a text, and whether that is all

-- what a piece is: a well-formed sequence that is copied, or the escape of another byte
pub data Piece (bytes p rest : List ℕ) : Type 0 where
  copied : sequence_len bytes ≡ Some (length p) → bytes ≡ p ++ rest → Piece bytes p rest
  an_escape : (b : ℕ) → sequence_len bytes ≡ None → bytes ≡ b ∷ rest → p ≡ escape b → Piece bytes p rest

-- each piece stands for the bytes behind those of the piece before, and none is left behind the last
abbrev pub StandFor : List ℕ → List (List ℕ) → Type 0
StandFor bytes [] = bytes ≡ []
StandFor bytes (p ∷ ps) = (rest : List ℕ) × Piece bytes p rest × StandFor rest ps

-- The pieces of a text stand for all its bytes, each of them once.
abbrev pub EveryByteHasItsPiece : Type 0
EveryByteHasItsPiece = (bytes : List ℕ) → StandFor bytes (pieces bytes)

-- what is shown: the first bytes of a text, as many as its length says
abbrev pub letters : {limit : ℕ} → FixedText limit → List ℕ
letters text = take text.len text.bytes

-- "the first that doesn't fit": of pieces of which only some are shown, the first that is left out
pub record LeftOut (room : ℕ) (shown : List ℕ) (ps : List (List ℕ)) : Type 0 where
  pub before : List (List ℕ)
  pub first : List ℕ
  pub behind : List (List ℕ)
  pub parts : ps ≡ before ++ first ∷ behind
  pub is : shown ≡ concat before
  pub no_room : room < length shown + length first

-- of bytes and the text that they are shown as: it says that it is whole exactly where what is shown is all their pieces, one
-- behind the other; and where it says no, the first piece left out does not fit behind what is shown
pub record SaysWhole (limit : ℕ) (bytes : List ℕ) (text : Option (FixedText limit)) : Type 0 where
  pub shown : FixedText limit
  pub is : text ≡ Some shown
  pub yes : shown.whole ≡ true → letters shown ≡ concat (pieces bytes)
  pub only : letters shown ≡ concat (pieces bytes) → shown.whole ≡ true
  pub no : shown.whole ≡ false → LeftOut (room_in limit) (letters shown) (pieces bytes)
  -- and so `is_whole` tells
  pub told : is_whole text ≡ shown.whole

-- Every text that is shown says so of its bytes.
abbrev pub WholeExactly : Type 0
WholeExactly = (limit : ℕ) (bytes : List ℕ) → SaysWhole limit bytes (Some (shown_text limit bytes))

-- what is read of a region: of one that is wholly present "everything before the 00", and of any other nothing
pub record RegionRead (start : ℕ) (bytes : List ℕ) (t : TextRegion) (limit : ℕ) : Type 0 where
  pub present : (region : List ℕ) → field_at start bytes t.offset t.len ≡ Some region → SaysWhole limit (until_zero region) (text_region start bytes t limit)
  pub lacking : field_at start bytes t.offset t.len ≡ None → text_region start bytes t limit ≡ None

abbrev pub RegionWholeExactly : Type 0
RegionWholeExactly = (start : ℕ) (bytes : List ℕ) (t : TextRegion) (limit : ℕ) → RegionRead start bytes t limit
