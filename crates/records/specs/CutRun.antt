-- 01, "A cut plan, read back", as one call runs it whole: a plan for a bank, its stores up to the cut, and the calls. What
-- the call leaves and answers is what the claim speaks of.
-- Assumes nothing.
use Rattle.std.specs.Prelude.{◌≡◌, List, ◌∷◌, ◌++◌, ℕ, ◌≤◌, ◌<◌, length, Err, Ok, Option, Result, Some, slice_get}
use Rattle.bus.specs.Value.{laid_into}
use Rattle.bank.specs.declared.refusal.Refusal.{Refusal}
use Rattle.bank.specs.declared.call_list.Answer.{Answer}
use Rattle.bank.specs.Refusal.{Check, checked}
use Rattle.bank.specs.Fields.{from_header}
use Rattle.bank.specs.declared.layout.ChunkMode.{ChunkMode}
use Rattle.bank.specs.Chunk.{chunk_in}
use Rattle.bank.specs.ReadOut.{fresh, invalid}
use Rattle.bank.specs.Calls.{Call, State, state_of, answer, answers_of, HoldsChunks}
use Rattle.records.specs.declared.luminaire_write.LuminaireNumbers.{LuminaireNumbers}
use Rattle.records.specs.declared.luminaire_write.Plan.{Plan}
use Rattle.records.specs.Plan.{plan_checks, stores_of}
use Rattle.records.specs.Cut.{cut_bank}
use Rattle.records.specs.Claim.{OldBank, Accepted, begin, state_after, standing, CutReadsBack}
use Rattle.bank.specs.declared.read_out.ReadOut.{ReadOut}

-- "the plan's layout is `Bank1Layout::from_header` of it"
abbrev pub plan_for : LuminaireNumbers → Option ℕ → List ℕ → Plan
plan_for numbers which old = record { layout = from_header old; numbers = numbers; text_field = which }

-- the bank that the cut leaves
abbrev pub cut_of : LuminaireNumbers → Option ℕ → List ℕ → List ℕ → ℕ → List ℕ
cut_of numbers which text old k = cut_bank (stores_of (plan_for numbers which old) text) k old

module _ (mode : ChunkMode) (numbers : LuminaireNumbers) (which : Option ℕ) (text old : List ℕ) where
  -- "12 length over 256", then the refusals of the plan
  unfoldable pub run_checks : List Check
  run_checks = invalid (fresh 1 (length old) mode) ∷ plan_checks (plan_for numbers which old) text

  module _ (k : ℕ) where
    -- the bank behind the call
    abbrev pub bank_behind : List ℕ
    bank_behind = checked run_checks (λ _. old) (cut_of numbers which text old k)

    module _ (buffer : List ℕ) (calls : List Call) where
      abbrev pub state_behind : State
      state_behind = state_after mode (cut_of numbers which text old k) buffer calls

      -- the read-out last handed back
      abbrev pub read_back : Result ReadOut Refusal
      read_back = checked run_checks Err (Ok state_behind.out)

      abbrev pub buffer_behind : List ℕ
      buffer_behind = checked run_checks (λ _. buffer) state_behind.buffer

      -- the answer of each call
      abbrev pub answers_behind : List Answer → List Answer
      answers_behind answers = checked run_checks (λ _. answers) (laid_into (answers_of (chunk_in mode) (begin mode (cut_of numbers which text old k) buffer) calls) answers)

-- A run of an accepted plan is not refused, and it is the one of which the claim holds.
pub record RunReadsBack (mode : ChunkMode) (numbers : LuminaireNumbers) (which : Option ℕ) (text old : List ℕ) (k : ℕ) (buffer : List ℕ) (calls : List Call) : Type 0 where
  pub runs : read_back mode numbers which text old k buffer calls ≡ Ok (state_after mode (cut_of numbers which text old k) buffer calls).out
  pub leaves_cut : bank_behind mode numbers which text old k ≡ cut_of numbers which text old k
  pub leaves_buffer : buffer_behind mode numbers which text old k buffer calls ≡ (state_after mode (cut_of numbers which text old k) buffer calls).buffer
  -- its answers begin with those of the claim's conclusion 1: each call answers "what "The read-out" above gives" at the sum of the
  -- accepted chunks' lengths
  pub lays_answers :
      (answers : List Answer) (before : List Call) (c : Call) (behind : List Call) → calls ≡ before ++ c ∷ behind → length before < length answers →
      slice_get (answers_behind mode numbers which text old k buffer calls answers) (length before)
      ≡ Some (answer (chunk_in mode) (state_of (standing mode (cut_of numbers which text old k) buffer before) buffer) c)
  pub leaves_answers :
      (answers : List Answer) (i : ℕ) → length calls ≤ i → slice_get (answers_behind mode numbers which text old k buffer calls answers) i ≡ slice_get answers i
  pub claim : CutReadsBack mode old (plan_for numbers which old) text k (cut_of numbers which text old k) buffer calls

abbrev pub EveryRunReadsBack : Type 0
EveryRunReadsBack =
    (mode : ChunkMode) (numbers : LuminaireNumbers) (which : Option ℕ) (text old : List ℕ) (k : ℕ) (buffer : List ℕ) (calls : List Call) →
    OldBank old → Accepted old (plan_for numbers which old) text →
    HoldsChunks (chunk_in mode) (cut_of numbers which text old k) (begin mode (cut_of numbers which text old k) buffer) calls →
    RunReadsBack mode numbers which text old k buffer calls

-- "Each returns its number alone, with read-out and lent slices as before": a run that is refused leaves all that it was lent.
pub record RunLeavesAll (mode : ChunkMode) (numbers : LuminaireNumbers) (which : Option ℕ) (text old : List ℕ) (k : ℕ) (buffer : List ℕ) (calls : List Call) (answers : List Answer) : Type 0 where
  pub bank : bank_behind mode numbers which text old k ≡ old
  pub buffer_stays : buffer_behind mode numbers which text old k buffer calls ≡ buffer
  pub answers_stay : answers_behind mode numbers which text old k buffer calls answers ≡ answers

abbrev pub EveryRefusedRunLeavesAll : Type 0
EveryRefusedRunLeavesAll =
    (mode : ChunkMode) (numbers : LuminaireNumbers) (which : Option ℕ) (text old : List ℕ) (k : ℕ) (buffer : List ℕ) (calls : List Call) (answers : List Answer) (r : Refusal) →
    read_back mode numbers which text old k buffer calls ≡ Err r → RunLeavesAll mode numbers which text old k buffer calls answers
