-- 02, F-4, "Lamp current in one read": what holds of every read-out of bank 1 in that mode, whatever calls are made of it.
-- Assumes nothing.
use Rattle.std.specs.Prelude.{◌≡◌, List, ◌∷◌, ◌++◌, ℕ, ◌+◌, ◌≤◌, ◌<◌, length}
use Rattle.bank.specs.declared.layout.ChunkMode.TheVariants.{LampCurrent}
use Rattle.bank.specs.ReadOut.{rule_of, fresh}
use Rattle.bank.specs.Calls.{Call, State, state_of, after, accepted, bytes_in}
use Rattle.bank.specs.Kept.{InOneChunk}

-- a chunk, behind those before it, neither begins nor ends "between C0 and C1 hex"
pub record NotBetween (before : List (List ℕ)) (bytes : List ℕ) : Type 0 where
  pub begins : bytes_in before ≡ 0xC1 → ⊥
  pub ends : bytes_in before + length bytes ≡ 0xC1 → ⊥

module _ (len : ℕ) (buffer : List ℕ) (calls : List Call) where
  -- "read-out of bank 1 from its start in this mode"
  abbrev start : State
  start = state_of (fresh 1 len LampCurrent) buffer

  abbrev chunks : List (List ℕ)
  chunks = accepted (rule_of start.out) start calls

  pub record Whole : Type 0 where
    pub not_between : (before : List (List ℕ)) (bytes : List ℕ) (behind : List (List ℕ)) → chunks ≡ before ++ bytes ∷ behind → NotBetween before bytes
    -- "C0 and C1 come in one chunk", once the next offset is past C0
    pub in_one : 0xC0 < (after (rule_of start.out) start calls).out.next → InOneChunk 0xC0 2 chunks

-- "in every read-out", "if the length holds both"
abbrev pub LampCurrentWhole : Type 0
LampCurrentWhole = (len : ℕ) (buffer : List ℕ) (calls : List Call) → 0xC2 ≤ len → Whole len buffer calls
