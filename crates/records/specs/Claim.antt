-- 01, "A cut plan, read back": the claim, in 01's order, and 02, F-4: "A cut plan reads back as promised in either mode, the
-- chosen mode's chunk standing for `chunk_len`." `proofs/Claim.antt` proves it.
-- Assumes nothing.
use Rattle.std.specs.Prelude.{◌≡◌, true, false, cond, ℕ, ◌+◌, ◌≤◌, ◌<◌, length, take, drop, None, Ok, Option, Some, option_and_then, option_map, slice_get}
use mathlib.Core.List.{List, [], ◌∷◌, ◌++◌}
use Rattle.bus.specs.Number.{low_bytes}
use Rattle.bank.specs.declared.read_out.ReadOut.{ReadOut}
use Rattle.bank.specs.declared.luminaire_write.NumberRule.{NumberRule}
use Rattle.bank.specs.declared.luminaire_write.LuminaireTextField.{LuminaireTextField}
use Rattle.bank.specs.declared.luminaire_write.FieldKind.{FieldKind}
use Rattle.bank.specs.declared.luminaire_write.FieldKind.TheVariants.{LayoutId, Number, Text}
use Rattle.bank.specs.declared.luminaire_write.LuminaireField.{LuminaireField}
use Rattle.bank.specs.Fields.{luminaire_fields, field_end, from_header}
use Rattle.bank.specs.Writable.{format_in}
use Rattle.bank.specs.declared.layout.ChunkMode.{ChunkMode}
use Rattle.bank.specs.declared.layout.ChunkMode.TheVariants.{Plain}
use Rattle.bank.specs.Chunk.{chunk_in}
use Rattle.bank.specs.ReadOut.{fresh, advanced, is_done, starting}
use Rattle.bank.specs.Calls.{Call, State, state_of, answer, answers_of, after, accepted, bytes_in, HoldsChunks}
use Rattle.records.specs.declared.luminaire_write.Plan.{Plan}
use Rattle.records.specs.Places.{is_there}
use Rattle.records.specs.Text.{as_text}
use Rattle.records.specs.Luminaire.{Reading, a_number, a_text, limit_for, number_read, reads, is_whole_text}
use Rattle.records.specs.Writes.{number_for, is_for}
use Rattle.records.specs.Plan.{stores_of, planned}
use Rattle.records.specs.Cut.{cut_bank, stores_for, taken_in}

-- ---- what is given

-- "The old bank is 1 to 256 bytes, one more than its first byte says"
pub record OldBank (old : List ℕ) : Type 0 where
  pub some_byte : 1 ≤ length old
  pub few : length old ≤ 256
  pub first_says : (first : ℕ) → slice_get old 0 ≡ Some first → length old ≡ first + 1

-- "the plan's layout is `Bank1Layout::from_header` of it", and the plan is accepted, with slices that are lent for its stores
pub record Accepted (old : List ℕ) (p : Plan) (text : List ℕ) : Type 0 where
  pub layout : p.layout ≡ from_header old
  pub offsets : List ℕ
  pub values : List ℕ
  pub count : ℕ
  pub accepts : planned p text offsets values ≡ Ok count

-- ---- the fields of a plan

module _ (p : Plan) (text : List ℕ) where
  -- what the record gives for the bytes that are made of a number, where the plan has the number
  abbrev pub number_as : LuminaireField → ℕ → NumberRule → (List ℕ → List ℕ) → Option Reading
  number_as f patch r bytes_of =
      option_map (λ value. a_number (number_read r (format_in p.layout.content_format_id) (Some (bytes_of (low_bytes f.len value))))) (number_for p.numbers patch)

  -- "Wanted is a text's own bytes, or what the record gives for the plan's number in its field's width."
  abbrev pub wanted_of : ℕ → LuminaireField → FieldKind → Option Reading
  wanted_of i f LayoutId = None
  wanted_of i f (Number patch r) = number_as f patch r (λ new. new)
  wanted_of i f (Text t) = cond (is_for p.text_field i) (Some (a_text (as_text (limit_for t) text))) None

  abbrev pub wanted : ℕ → Option Reading
  wanted i = option_and_then (λ f. wanted_of i f f.kind) (slice_get luminaire_fields i)

  -- what a field reads as where so many of its stores were made, and not all: a text is empty; a number has "new leading
  -- bytes", and its old ones behind
  abbrev pub begun_of : List ℕ → ℕ → LuminaireField → FieldKind → Option Reading
  begun_of old new f LayoutId = None
  begun_of old new f (Number patch r) = number_as f patch r (λ bytes. take new bytes ++ drop new (take f.len (drop f.offset old)))
  begun_of old new f (Text t) = Some (a_text (as_text (limit_for t) []))

  abbrev pub begun : List ℕ → ℕ → ℕ → Option Reading
  begun old new i = option_and_then (λ f. begun_of old new f f.kind) (slice_get luminaire_fields i)

-- a planned field "whose stores were all made"
pub record AllMade (p : Plan) (text : List ℕ) (k i : ℕ) : Type 0 where
  pub is_planned : is_there (wanted p text i) ≡ true
  pub all : taken_in p text k i ≡ stores_for p text i

-- a field with "stores begun and not all made": "They are begun when the cut takes in one of them"
pub record Begun (p : Plan) (text : List ℕ) (k i : ℕ) : Type 0 where
  pub takes_one : 1 ≤ length (taken_in p text k i)
  pub not_all : length (taken_in p text k i) < length (stores_for p text i)

-- ---- the calls

module _ (mode : ChunkMode) (bank buffer : List ℕ) where
  -- "The list starts from a read-out of bank 1 newly started with the cut bank's length"; "one buffer, of any length and content"
  abbrev pub begin : State
  begin = state_of (fresh 1 (length bank) mode) buffer

  -- what the calls leave
  abbrev pub state_after : List Call → State
  state_after calls = after (chunk_in mode) begin calls

  abbrev pub chunks_of : List Call → List (List ℕ)
  chunks_of calls = accepted (chunk_in mode) begin calls

  -- "the sum of the accepted chunks' lengths"
  abbrev pub fetched : List Call → ℕ
  fetched calls = bytes_in (chunks_of calls)

  -- the read-out at that offset
  abbrev pub standing : List Call → ReadOut
  standing calls = advanced (fresh 1 (length bank) mode) (fetched calls)

  -- "once the read-out is done"
  abbrev pub Done : List Call → Type 0
  Done calls = is_done (state_after calls).out ≡ true

  -- "now from the buffer's first bytes, as many as the bank has"
  abbrev pub now_of : List Call → List ℕ
  now_of calls = take (length bank) (state_after calls).buffer

-- a call, behind those before it in the list
pub record Answered (mode : ChunkMode) (bank buffer : List ℕ) (calls before : List Call) (c : Call) : Type 0 where
  -- "The next offset is the sum of the accepted chunks' lengths"
  pub next_is : (state_after mode bank buffer before).out ≡ standing mode bank buffer before
  -- "each call answers what "The read-out" above gives at that offset"
  pub answers_so :
      slice_get (answers_of (chunk_in mode) (begin mode bank buffer) calls) (length before)
      ≡ Some (answer (chunk_in mode) (state_of (standing mode bank buffer before) buffer) c)

-- ---- what is concluded

-- of an old bank, a plan, a cut of it, the bank that the cut leaves, a buffer and a list of calls
pub record CutReadsBack (mode : ChunkMode) (old : List ℕ) (p : Plan) (text : List ℕ) (k : ℕ) (bank buffer : List ℕ) (calls : List Call) : Type 0 where
  -- 0. the read-out is started: "newly started with the cut bank's length"
  pub starts : starting 1 (length bank) mode ≡ Ok (fresh 1 (length bank) mode)
  -- 1. "The next offset is the sum of the accepted chunks' lengths, each call answers what "The read-out" above gives at that
  -- offset": before each call, and refused calls too
  pub each_call : (before : List Call) (c : Call) (behind : List Call) → calls ≡ before ++ c ∷ behind → Answered mode bank buffer calls before c
  -- 2. "its bytes stored at that offset in the lent buffer and nothing else there changed": after the list the buffer is the
  -- cut bank's bytes up to the next offset, and its own old bytes elsewhere
  pub buffer_is :
      (state_after mode bank buffer calls).buffer
      ≡ take (state_after mode bank buffer calls).out.next bank ++ drop (state_after mode bank buffer calls).out.next buffer
  -- 3. "after as many accepted chunks as the bank has bytes the read-out is done at the latest"
  pub ends : length bank ≤ length (chunks_of mode bank buffer calls) → Done mode bank buffer calls
  -- 4. "The fields are the 18 of `LUMINAIRE_FIELDS`; once the read-out is done, the buffer holds every bank byte outside them as
  -- in the old bank."
  pub outside :
      Done mode bank buffer calls → (j : ℕ) →
      ((i : ℕ) (f : LuminaireField) → slice_get luminaire_fields i ≡ Some f → f.offset ≤ j → j < field_end f → ⊥) →
      slice_get (now_of mode bank buffer calls) j ≡ slice_get old j
  -- 5. "A field reads as the luminaire record gives it at start offset 0, absent included: now from the buffer's first bytes":
  -- once done, every planned field whose stores were all made reads as wanted
  pub whole : Done mode bank buffer calls → (i : ℕ) → AllMade p text k i → reads 0 (now_of mode bank buffer calls) i ≡ wanted p text i
  -- 6. "They are begun when the cut takes in one of them; new leading bytes are those it takes in": once done, at most one field
  -- has stores begun and not all made; there a text reads empty, and a number of several bytes as the record reads its new
  -- leading bytes followed by its old trailing ones
  pub only_one : Done mode bank buffer calls → (i j : ℕ) → Begun p text k i → Begun p text k j → i ≡ j
  pub in_between :
      Done mode bank buffer calls → (i : ℕ) → Begun p text k i →
      reads 0 (now_of mode bank buffer calls) i ≡ begun p text old (length (taken_in p text k i)) i
  -- 7. "old, or before, from the old bank": once done, every other field reads exactly as before, absent included
  pub others :
      Done mode bank buffer calls → (i : ℕ) → (AllMade p text k i → ⊥) → (Begun p text k i → ⊥) →
      reads 0 (now_of mode bank buffer calls) i ≡ reads 0 old i

-- The claim, for a mode. A cut is any number: one over the count of stores makes them all.
abbrev pub CutPlanReadsBackIn : ChunkMode → Type 0
CutPlanReadsBackIn mode =
    (old : List ℕ) (p : Plan) (text : List ℕ) (k : ℕ) (bank buffer : List ℕ) (calls : List Call) →
    OldBank old → Accepted old p text → bank ≡ cut_bank (stores_of p text) k old → HoldsChunks (chunk_in mode) bank (begin mode bank buffer) calls →
    CutReadsBack mode old p text k bank buffer calls

-- "Demand 3 is a single claim about plan, cut and the whole list of calls": the claim.
abbrev pub CutPlanReadsBack : Type 0
CutPlanReadsBack = CutPlanReadsBackIn Plain

-- "in either mode"
abbrev pub EveryModeReadsBack : Type 0
EveryModeReadsBack = (mode : ChunkMode) → CutPlanReadsBackIn mode

-- What is wanted of a number, in a plan that is accepted, is the number itself, shown as it is.
abbrev pub EveryWantedNumberShown : Type 0
EveryWantedNumberShown =
    (old : List ℕ) (p : Plan) (text : List ℕ) → OldBank old → Accepted old p text →
    (i : ℕ) (f : LuminaireField) (patch : ℕ) (r : NumberRule) (value : ℕ) →
    slice_get luminaire_fields i ≡ Some f → f.kind ≡ Number patch r → number_for p.numbers patch ≡ Some value →
    wanted p text i ≡ Some (a_number (Some (record { raw = value; value = Some value; part209_implemented = false })))

-- a text field of a plan, in the bank that was read
pub record ReadsWhole (p : Plan) (text : List ℕ) (k i : ℕ) (now : Option Reading) : Type 0 where
  pub made : AllMade p text k i → option_map is_whole_text now ≡ Some true
  -- nothing stands before its 00
  pub begun_too : Begun p text k i → option_map is_whole_text now ≡ Some true

-- 02, F-8: "yes for every text that a plan accepts". Once the read-out of a cut plan is done, a text whose stores were all made reads
-- whole, and so does one that is begun.
abbrev pub EveryPlannedTextWhole : Type 0
EveryPlannedTextWhole =
    (mode : ChunkMode) (old : List ℕ) (p : Plan) (text : List ℕ) (k : ℕ) (bank buffer : List ℕ) (calls : List Call) →
    OldBank old → Accepted old p text → bank ≡ cut_bank (stores_of p text) k old → HoldsChunks (chunk_in mode) bank (begin mode bank buffer) calls →
    Done mode bank buffer calls → (i : ℕ) (f : LuminaireField) (t : LuminaireTextField) →
    slice_get luminaire_fields i ≡ Some f → f.kind ≡ Text t → ReadsWhole p text k i (reads 0 (now_of mode bank buffer calls) i)
