-- 02, F-12, "Bus traffic beforehand": the number of a read-out's chunks, and that it is the real run's.
-- Assumes nothing.
use Rattle.std.specs.Prelude.{◌≡◌, true, cond, List, [], ◌∷◌, map, ℕ, zero, suc, ◌≤◌, length, Err, Ok, Result}
use Rattle.bank.specs.declared.layout.ChunkMode.{ChunkMode}
use Rattle.bank.specs.declared.refusal.Refusal.{Refusal}
use Rattle.bank.specs.declared.refusal.Refusal.TheVariants.{SliceTooShort, WrongChunkLength}
use Rattle.bank.specs.declared.read_out.ReadOut.{ReadOut}
use Rattle.bank.specs.declared.read_out.Wanted.{Wanted}
use Rattle.bank.specs.Refusal.{checked}
use Rattle.bank.specs.Chunk.{ChunkRule, chunk_in}
use Rattle.bank.specs.ReadOut.{fresh, advanced, rule_of, is_done, want_checks, starting, wanted_len, wanting, accepting}
use Rattle.bank.specs.Calls.{Call, want, accept, State, state_of, step, after, accepted}

-- the lengths of the chunks that a read-out still wants, at one budget; the first number is the most that are listed
unfoldable pub chunk_lengths : ChunkRule → ℕ → ReadOut → ℕ → List ℕ
chunk_lengths chunk zero r budget = []
chunk_lengths chunk (suc most) r budget =
    cond (is_done r) []
    (wanted_len chunk r budget ∷ chunk_lengths chunk most (advanced r (wanted_len chunk r budget)) budget)

-- "From bank, length, chunk mode and one budget": those of a read-out from its start, of which there are no more than bytes
abbrev pub chunks_of : ℕ → ℕ → ChunkMode → ℕ → List ℕ
chunks_of bank len mode budget = chunk_lengths (chunk_in mode) len (fresh bank len mode) budget

-- "work out the number of chunks without any bytes"; "a refusal is the same one (budget 0 is 11 at length 0 too), except that
-- 13 and 14 can't arise"
unfoldable pub counted_chunks : ℕ → ℕ → ChunkMode → ℕ → Result ℕ Refusal
counted_chunks bank len mode budget =
    checked (want_checks (fresh bank len mode) budget) Err (Ok (length (chunks_of bank len mode budget)))

-- ---- "Both equal what the real run does"

-- the calls that want and accept each of the chunks, and then want once more
abbrev pub asking : ℕ → List (List ℕ) → List Call
asking budget [] = want budget ∷ []
asking budget (c ∷ cs) = want budget ∷ accept budget c ∷ asking budget cs

-- each of the chunks has the wanted length, and behind the last the read-out is done
abbrev pub UntilDone : ChunkRule → ℕ → State → List (List ℕ) → Type 0
UntilDone chunk budget s [] = wanting chunk s.out budget ≡ Ok Wanted.Done
UntilDone chunk budget s (c ∷ cs) =
    (wanting chunk s.out budget ≡ Ok (Wanted.Chunk (length c))) × UntilDone chunk budget (step chunk s (accept budget c)) cs

-- all accepting calls have one budget; wanting, which changes nothing, may have any
abbrev pub AtBudget : ℕ → List Call → Type 0
AtBudget budget [] = Unit {0}
AtBudget budget (want other ∷ cs) = AtBudget budget cs
AtBudget budget (accept own bytes ∷ cs) = (own ≡ budget) × AtBudget budget cs

abbrev pub not_empty : List (List ℕ) → List (List ℕ)
not_empty [] = []
not_empty ([] ∷ cs) = not_empty cs
not_empty ((b ∷ bs) ∷ cs) = (b ∷ bs) ∷ not_empty cs

module _ (bank len : ℕ) (mode : ChunkMode) (budget : ℕ) where
  module _ (buffer : List ℕ) where
    abbrev start : State
    start = state_of (fresh bank len mode) buffer

    pub record AsRun : Type 0 where
      -- the list of calls that wants and accepts until done has just so many accepted chunks
      pub by_wanting : (chunks : List (List ℕ)) → UntilDone (chunk_in mode) budget start chunks →
          (accepted (chunk_in mode) start (asking budget chunks) ≡ chunks) × (counted_chunks bank len mode budget ≡ Ok (length chunks))
      -- and there is one for chunks of any content
      pub any_content : (chunks : List (List ℕ)) → map length chunks ≡ chunks_of bank len mode budget → UntilDone (chunk_in mode) budget start chunks
      -- any list of accepting calls that ends done has just so many accepted chunks that are not empty
      pub by_accepting : (calls : List Call) → AtBudget budget calls → is_done (after (chunk_in mode) start calls).out ≡ true →
          counted_chunks bank len mode budget ≡ Ok (length (not_empty (accepted (chunk_in mode) start calls)))

  -- "a refusal is the same one": that of starting, of wanting, and of accepting, whatever chunk and buffer that is lent
  pub record RefusedAsRun : Type 0 where
    pub not_started : {r : Refusal} → starting bank len mode ≡ Err r → counted_chunks bank len mode budget ≡ Err r
    pub not_wanted : {out : ReadOut} {r : Refusal} → starting bank len mode ≡ Ok out → wanting (rule_of out) out budget ≡ Err r →
        counted_chunks bank len mode budget ≡ Err r
    -- "except that 13 and 14 can't arise"
    pub not_accepted : {out : ReadOut} {r : Refusal} (bytes buffer : List ℕ) → starting bank len mode ≡ Ok out →
        accepting (rule_of out) out budget bytes buffer ≡ Err r → (r ≡ SliceTooShort → ⊥) → (r ≡ WrongChunkLength → ⊥) →
        counted_chunks bank len mode budget ≡ Err r

abbrev pub ChunksAsRun : Type 0
ChunksAsRun =
    (bank len : ℕ) (mode : ChunkMode) (budget : ℕ) (buffer : List ℕ) →
    len ≤ 256 → 1 ≤ budget → len ≤ length buffer → AsRun bank len mode budget buffer

abbrev pub ChunksRefusedAsRun : Type 0
ChunksRefusedAsRun = (bank len : ℕ) (mode : ChunkMode) (budget : ℕ) → RefusedAsRun bank len mode budget
