-- 01, "The read-out": what starting, wanting and accepting answer, and what accepting leaves in the lent buffer. The
-- chunk rule is a parameter; the calls use that of the read-out.
-- Assumes nothing.
use Rattle.std.specs.Prelude.{◌≡◌, Bool, not, cond, ◌||◌, List, [], ◌∷◌, ◌++◌, ℕ, ◌+◌, ◌-◌, ◌≤◌, ◌<◌, eqb, ltb, length, take, drop, Err, Ok, Result}
use Rattle.bank.specs.declared.layout.ChunkMode.{ChunkMode}
use Rattle.bank.specs.declared.refusal.Refusal.{Refusal}
use Rattle.bank.specs.declared.refusal.Refusal.TheVariants.{BudgetZero, ReadOutInvalid, SliceTooShort, WrongChunkLength}
use Rattle.bank.specs.declared.read_out.ReadOut.{ReadOut}
use Rattle.bank.specs.declared.read_out.Wanted.{Wanted}
use Rattle.bank.specs.Refusal.{Check, ◌when◌, checked}
use Rattle.bank.specs.Chunk.{ChunkRule, chunk_in, Bounded}

-- "A read-out is a bank number, a length 0 to 256 and a next offset from 0."
abbrev pub fresh : ℕ → ℕ → ChunkMode → ReadOut
fresh bank len mode = record { bank = bank; length = len; next = 0; mode = mode }

-- "a new read-out with its next offset advanced"
abbrev pub advanced : ReadOut → ℕ → ReadOut
advanced r n = record { bank = r.bank; length = r.length; next = r.next + n; mode = r.mode }

-- 02, F-4: "The caller chooses the mode at the read-out's start": the rule of its chunks
abbrev pub rule_of : ReadOut → ChunkRule
rule_of r = chunk_in r.mode

-- "It says done exactly when next equals length."
abbrev pub is_done : ReadOut → Bool
is_done r = eqb r.next r.length

-- 12: "length over 256, or next offset over length"
abbrev pub invalid : ReadOut → Check
invalid r = ReadOutInvalid when (ltb 256 r.length || ltb r.length r.next)

-- 11: "budget 0"
abbrev pub no_budget : ℕ → Check
no_budget budget = BudgetZero when eqb budget 0

-- 13: "the buffer shorter than the read-out's length"
abbrev pub short_buffer : ReadOut → List ℕ → Check
short_buffer r buffer = SliceTooShort when ltb (length buffer) r.length

-- "Starting: 12."
abbrev pub starting : ℕ → ℕ → ChunkMode → Result ReadOut Refusal
starting bank len mode = checked (invalid (fresh bank len mode) ∷ []) Err (Ok (fresh bank len mode))

-- A read-out is started of the bank, the length and the mode that are asked for, exactly where the length is "0 to 256".
pub record StartedExactly (bank len : ℕ) (mode : ChunkMode) : Type 0 where
  pub accepted : len ≤ 256 → starting bank len mode ≡ Ok (record { bank = bank; length = len; next = 0; mode = mode })
  pub refused : 256 < len → starting bank len mode ≡ Err ReadOutInvalid

abbrev pub EveryReadOutStartedExactly : Type 0
EveryReadOutStartedExactly = (bank len : ℕ) (mode : ChunkMode) → StartedExactly bank len mode

-- "Wanting: 12, 11"
abbrev pub want_checks : ReadOut → ℕ → List Check
want_checks r budget = invalid r ∷ no_budget budget ∷ []

-- "its bytes stored at that offset in the lent buffer and nothing else there changed"
unfoldable pub laid : List ℕ → ℕ → List ℕ → List ℕ
laid buffer at bytes = take at buffer ++ bytes ++ drop (at + length bytes) buffer

module _ (chunk : ChunkRule) where
  -- the chunk it wants by the rule
  abbrev pub wanted_len : ReadOut → ℕ → ℕ
  wanted_len r budget = chunk r.bank r.next (r.length - r.next) budget

  -- "then done"
  unfoldable pub wanting : ReadOut → ℕ → Result Wanted Refusal
  wanting r budget =
      checked (want_checks r budget) Err
      (Ok (cond (is_done r) Wanted.Done (Wanted.Chunk (wanted_len r budget))))

  -- 14: "chunk of another length than wanted"
  abbrev pub other_chunk : ReadOut → ℕ → List ℕ → Check
  other_chunk r budget bytes = WrongChunkLength when not (eqb (length bytes) (wanted_len r budget))

  -- "Accepting: 12, 11, 13, 14"
  abbrev pub accept_checks : ReadOut → ℕ → List ℕ → List ℕ → List Check
  accept_checks r budget bytes buffer = want_checks r budget ++ short_buffer r buffer ∷ other_chunk r budget bytes ∷ []

  unfoldable pub accepting : ReadOut → ℕ → List ℕ → List ℕ → Result ReadOut Refusal
  accepting r budget bytes buffer =
      checked (accept_checks r budget bytes buffer) Err (Ok (advanced r (length bytes)))

  -- the buffer behind an accepting call: a refused one leaves it as before
  unfoldable pub buffer_after : ReadOut → ℕ → List ℕ → List ℕ → List ℕ
  buffer_after r budget bytes buffer =
      checked (accept_checks r budget bytes buffer) (λ _. buffer) (laid buffer r.next bytes)

-- neither 12 nor 11 applies
pub record Valid (r : ReadOut) (budget : ℕ) : Type 0 where
  pub short : r.length ≤ 256
  pub ahead : r.next ≤ r.length
  pub paid : 1 ≤ budget

-- "The chunk it wants is `chunk_len(bank, next, length − next, budget)`", "the chosen mode's chunk standing for `chunk_len`": of
-- the read-out's own bank and mode
abbrev pub EveryChunkWanted : Type 0
EveryChunkWanted =
    (r : ReadOut) (budget : ℕ) → Valid r budget → r.next < r.length →
    wanting (rule_of r) r budget ≡ Ok (Wanted.Chunk (chunk_in r.mode r.bank r.next (r.length - r.next) budget))

-- nor 13 nor 14
pub record Acceptable (chunk : ChunkRule) (r : ReadOut) (budget : ℕ) (bytes buffer : List ℕ) : Type 0 where
  pub valid : Valid r budget
  pub room : r.length ≤ length buffer
  pub exact : length bytes ≡ wanted_len chunk r budget

-- A chunk is accepted, and its bytes stored, exactly where nothing is wrong; a refused one changes nothing.
pub record TakenExactly (chunk : ChunkRule) (r : ReadOut) (budget : ℕ) (bytes buffer : List ℕ) : Type 0 where
  pub accepted : Acceptable chunk r budget bytes buffer → accepting chunk r budget bytes buffer ≡ Ok (advanced r (length bytes))
  pub stored : Acceptable chunk r budget bytes buffer → buffer_after chunk r budget bytes buffer ≡ laid buffer r.next bytes
  pub only : {s : ReadOut} → accepting chunk r budget bytes buffer ≡ Ok s → Acceptable chunk r budget bytes buffer
  -- "Each returns its number alone, with read-out and lent slices as before."
  pub refused : {e : Refusal} → accepting chunk r budget bytes buffer ≡ Err e → buffer_after chunk r budget bytes buffer ≡ buffer

abbrev pub EveryChunkTakenExactly : Type 0
EveryChunkTakenExactly = (chunk : ChunkRule) (r : ReadOut) (budget : ℕ) (bytes buffer : List ℕ) → TakenExactly chunk r budget bytes buffer

-- What "done" means, for a chunk rule that has the bounds.
pub record DoneRight (chunk : ChunkRule) (r : ReadOut) (budget : ℕ) : Type 0 where
  -- "It says done exactly when next equals length."
  pub says_done : r.next ≡ r.length → wanting chunk r budget ≡ Ok Wanted.Done
  pub only_then : wanting chunk r budget ≡ Ok Wanted.Done → r.next ≡ r.length
  -- "when done, only an empty chunk is accepted and nothing changes"
  pub only_empty : (bytes buffer : List ℕ) {s : ReadOut} → r.next ≡ r.length → accepting chunk r budget bytes buffer ≡ Ok s → bytes ≡ []
  pub stays : (buffer : List ℕ) → r.next ≡ r.length → r.length ≤ length buffer → accepting chunk r budget [] buffer ≡ Ok r
  pub unchanged : (buffer : List ℕ) → buffer_after chunk r budget [] buffer ≡ buffer

abbrev pub EveryReadOutDoneRight : Type 0
EveryReadOutDoneRight = (chunk : ChunkRule) → Bounded chunk → (r : ReadOut) (budget : ℕ) → Valid r budget → DoneRight chunk r budget
