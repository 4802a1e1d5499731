-- For 02, F-4: a property of the next offset that each chunk keeps holds where every accepted chunk begins and ends. For any
-- chunk rule that has the bounds.
-- Assumes nothing.
use Rattle.std.specs.Prelude.{◌≡◌, List, ◌∷◌, ◌++◌, ℕ, ◌+◌, ◌-◌, ◌≤◌, ◌<◌, length}
use Rattle.bank.specs.declared.layout.ChunkMode.{ChunkMode}
use Rattle.bank.specs.Chunk.{ChunkRule, Bounded}
use Rattle.bank.specs.ReadOut.{fresh}
use Rattle.bank.specs.Calls.{Call, State, state_of, after, accepted, bytes_in}

-- a property that holds of the first offset, and behind each chunk where it holds before it
pub record Kept (chunk : ChunkRule) (bank len : ℕ) (stands : ℕ → Type 0) : Type 0 where
  pub first : stands 0
  pub next : (o budget : ℕ) → o ≤ len → stands o → stands (o + chunk bank o (len - o) budget)

-- n bytes from an offset on come in one of the chunks
pub record InOneChunk (o n : ℕ) (chunks : List (List ℕ)) : Type 0 where
  pub before : List (List ℕ)
  pub bytes : List ℕ
  pub behind : List (List ℕ)
  pub is : chunks ≡ before ++ bytes ∷ behind
  pub from : bytes_in before ≤ o
  pub to : o + n ≤ bytes_in before + length bytes

-- Of a read-out newly started, whatever calls are made of it:
pub record KeptByAll (chunk : ChunkRule) (stands : ℕ → Type 0) (start : State) (calls : List Call) : Type 0 where
  -- the property holds where each accepted chunk begins, and where it ends
  pub each :
      (before : List (List ℕ)) (bytes : List ℕ) (behind : List (List ℕ)) →
      accepted chunk start calls ≡ before ++ bytes ∷ behind → stands (bytes_in before) × stands (bytes_in before + length bytes)
  -- and so bytes that are never parted by it come in one chunk, once the first of them has come
  pub in_one :
      (o n : ℕ) → ((p : ℕ) → stands p → o < p → o + n ≤ p) → o < (after chunk start calls).out.next →
      InOneChunk o n (accepted chunk start calls)

abbrev pub EveryKeptProperty : Type 1
EveryKeptProperty =
    (chunk : ChunkRule) → Bounded chunk → (bank len : ℕ) (stands : ℕ → Type 0) → Kept chunk bank len stands →
    (mode : ChunkMode) (buffer : List ℕ) (calls : List Call) → KeptByAll chunk stands (state_of (fresh bank len mode) buffer) calls
