-- 01, "A cut plan, read back": the calls of a read-out, one after the other, and what holds of every list of them, for
-- any chunk rule that has the bounds.
-- Assumes nothing.
use Rattle.std.specs.Prelude.{◌≡◌, Bool, cond, List, [], ◌∷◌, ◌++◌, map, ℕ, ◌+◌, ◌^◌, ◌≤◌, ◌<◌, eqb, length, take, drop, Err, Ok, Result, Some, slice_get}
use Rattle.bank.specs.declared.refusal.Refusal.{Refusal}
use Rattle.bank.specs.declared.call_list.Call.{Call as LentCall}
use Rattle.bank.specs.declared.call_list.Call as lent
use Rattle.bank.specs.declared.call_list.Answer.{Answer}
use Rattle.bank.specs.declared.call_list.Answer.TheVariants.{Wanting, Accepting}
use Rattle.bank.specs.declared.read_out.ReadOut.{ReadOut}
use Rattle.bank.specs.declared.read_out.Wanted.{Wanted}
use Rattle.bank.specs.Refusal.{number_of, first_of}
use Rattle.bank.specs.Chunk.{ChunkRule, Bounded}
use Rattle.bank.specs.ReadOut.{advanced, laid, want_checks, wanted_len, wanting, accept_checks, accepting, buffer_after, Valid, Acceptable}

-- "The calls are wanting with a budget, and accepting with a budget and a chunk."
pub data Call : Type 0 where
  want : ℕ → Call
  accept : ℕ → List ℕ → Call

-- "the read-out last handed back", and the one buffer that "All accepting calls are lent"
pub record State : Type 0 where
  pub out : ReadOut
  pub buffer : List ℕ

abbrev pub state_of : ReadOut → List ℕ → State
state_of out buffer = record { out = out; buffer = buffer }

-- the read-out that a call hands back, or the one it got
abbrev handed_or : Result ReadOut Refusal → ReadOut → ReadOut
handed_or (Ok r) before = r
handed_or (Err e) before = before

-- the same, by what the call answered
abbrev pub handed_back : Answer → ReadOut → ReadOut
handed_back (Wanting w) before = before
handed_back (Accepting h) before = handed_or h before

-- the chunk that an accepted call has stored
abbrev stored_by : Result ReadOut Refusal → List ℕ → List (List ℕ)
stored_by (Ok r) bytes = bytes ∷ []
stored_by (Err e) bytes = []

module _ (chunk : ChunkRule) where
  -- "each call answers what "The read-out" above gives", refused calls included
  abbrev pub answer : State → Call → Answer
  answer s (want budget) = Wanting (wanting chunk s.out budget)
  answer s (accept budget bytes) = Accepting (accepting chunk s.out budget bytes s.buffer)

  -- "each call gets the read-out last handed back, by starting or accepting"
  abbrev pub step : State → Call → State
  step s (want budget) = s
  step s (accept budget bytes) =
      record {
        out = handed_or (accepting chunk s.out budget bytes s.buffer) s.out;
        buffer = buffer_after chunk s.out budget bytes s.buffer;
      }

  abbrev pub after : State → List Call → State
  after s [] = s
  after s (c ∷ cs) = after (step s c) cs

  abbrev pub answers_of : State → List Call → List Answer
  answers_of s [] = []
  answers_of s (c ∷ cs) = answer s c ∷ answers_of (step s c) cs

  abbrev pub taken : State → Call → List (List ℕ)
  taken s (want budget) = []
  taken s (accept budget bytes) = stored_by (accepting chunk s.out budget bytes s.buffer) bytes

  -- the accepted chunks, in their order
  abbrev pub accepted : State → List Call → List (List ℕ)
  accepted s [] = []
  accepted s (c ∷ cs) = taken s c ++ accepted (step s c) cs

  -- "A chunk of the length wanted at its call's budget holds the cut bank's bytes from the next offset on; any other holds
  -- anything."
  abbrev pub HoldsChunk : List ℕ → State → Call → Type 0
  HoldsChunk bank s (want budget) = Unit {0}
  HoldsChunk bank s (accept budget bytes) =
      wanting chunk s.out budget ≡ Ok (Wanted.Chunk (length bytes)) → bytes ≡ take (length bytes) (drop s.out.next bank)

  abbrev pub HoldsChunks : List ℕ → State → List Call → Type 0
  HoldsChunks bank s [] = Unit {0}
  HoldsChunks bank s (c ∷ cs) = HoldsChunk bank s c × HoldsChunks bank (step s c) cs

-- "each call answers what "The read-out" above gives", by its sentences
pub record AnsweredExactly (chunk : ChunkRule) (s : State) (budget : ℕ) (bytes : List ℕ) : Type 0 where
  -- "Wanting: 12, 11, then done."
  pub want_refused : {e : Refusal} → first_of (want_checks s.out budget) ≡ Some e → answer chunk s (want budget) ≡ Wanting (Err e)
  -- "It says done exactly when next equals length."
  pub says_done : Valid s.out budget → s.out.next ≡ s.out.length → answer chunk s (want budget) ≡ Wanting (Ok Wanted.Done)
  -- "The chunk it wants is `chunk_len(bank, next, length − next, budget)`."
  pub wants : Valid s.out budget → s.out.next < s.out.length → answer chunk s (want budget) ≡ Wanting (Ok (Wanted.Chunk (wanted_len chunk s.out budget)))
  -- "Accepting: 12, 11, 13, 14"
  pub accept_refused : {e : Refusal} → first_of (accept_checks chunk s.out budget bytes s.buffer) ≡ Some e → answer chunk s (accept budget bytes) ≡ Accepting (Err e)
  -- "Each accepted chunk hands back a new read-out with its next offset advanced"
  pub accepts : Acceptable chunk s.out budget bytes s.buffer → answer chunk s (accept budget bytes) ≡ Accepting (Ok (advanced s.out (length bytes)))

abbrev pub EveryCallAnsweredExactly : Type 0
EveryCallAnsweredExactly = (chunk : ChunkRule) (s : State) (budget : ℕ) (bytes : List ℕ) → AnsweredExactly chunk s budget bytes

-- "each call gets the read-out last handed back": by the answer before, or the same once more where that hands back none
abbrev pub EveryAnswerHandedOn : Type 0
EveryAnswerHandedOn = (chunk : ChunkRule) (s : State) (c : Call) → handed_back (answer chunk s c) s.out ≡ (step chunk s c).out

abbrev pub sum : List ℕ → ℕ
sum [] = 0
sum (x ∷ xs) = x + sum xs

-- "the sum of the accepted chunks' lengths": where the next one begins
abbrev pub bytes_in : List (List ℕ) → ℕ
bytes_in chunks = sum (map length chunks)

abbrev pub joined : List (List ℕ) → List ℕ
joined [] = []
joined (x ∷ xs) = x ++ joined xs

-- What holds behind a list of calls, whatever chunks they bring.
pub record Behind (chunk : ChunkRule) (s : State) (calls : List Call) : Type 0 where
  -- "The next offset is the sum of the accepted chunks' lengths"; bank, length and mode stay
  pub next_is : (after chunk s calls).out.next ≡ s.out.next + bytes_in (accepted chunk s calls)
  pub bank_stays : (after chunk s calls).out.bank ≡ s.out.bank
  pub length_stays : (after chunk s calls).out.length ≡ s.out.length
  pub mode_stays : (after chunk s calls).out.mode ≡ s.out.mode
  -- the next offset never passes the length
  pub within : (after chunk s calls).out.next ≤ s.out.length
  -- "its bytes stored at that offset in the lent buffer and nothing else there changed": all chunks in one
  pub buffer_is : (after chunk s calls).buffer ≡ laid s.buffer s.out.next (joined (accepted chunk s calls))
  pub room_stays : length (after chunk s calls).buffer ≡ length s.buffer
  -- "Lengths over 0 end within as many chunks as bytes"
  pub ends : s.out.length ≤ s.out.next + length (accepted chunk s calls) → (after chunk s calls).out.next ≡ s.out.length

abbrev pub EveryListOfCalls : Type 0
EveryListOfCalls = (chunk : ChunkRule) → Bounded chunk → (s : State) → s.out.next ≤ s.out.length → (calls : List Call) → Behind chunk s calls

-- Where chunks of the wanted length hold a bank's bytes, the accepted ones are the bank's bytes, one behind the other.
abbrev pub EveryChunkOfBank : Type 0
EveryChunkOfBank =
    (chunk : ChunkRule) → Bounded chunk → (bank : List ℕ) (s : State) → s.out.next ≤ s.out.length → (calls : List Call) →
    HoldsChunks chunk bank s calls →
    joined (accepted chunk s calls) ≡ take (bytes_in (accepted chunk s calls)) (drop s.out.next bank)

-- ---- calls that are lent in a slice

-- what is called, and the calls of a slice in their order
abbrev pub call_of : LentCall → Call
call_of (lent.TheVariants.Wanting budget) = want budget
call_of (lent.TheVariants.Accepting budget chunk) = accept budget chunk.now

abbrev pub calls_in : List LentCall → List Call
calls_in calls = map call_of calls

-- a budget has 16 bits
abbrev pub Layable : List Call → Type 0
Layable [] = Unit {0}
Layable (want budget ∷ cs) = (budget ≤ 0xFFFF) × Layable cs
Layable (accept budget bytes ∷ cs) = (budget ≤ 0xFFFF) × Layable cs

-- the bits that a lent call has for its budget
abbrev pub HasBits : LentCall → Type 0
HasBits (lent.TheVariants.Wanting budget) = budget < 2 ^ 16
HasBits (lent.TheVariants.Accepting budget chunk) = budget < 2 ^ 16

abbrev pub AllHaveBits : List LentCall → Type 0
AllHaveBits [] = Unit {0}
AllHaveBits (c ∷ cs) = HasBits c × AllHaveBits cs

-- a lent call is this one, and lent calls are these in their order
abbrev pub Lends : LentCall → Call → Type 0
Lends (lent.TheVariants.Wanting budget) (want b) = budget ≡ b
Lends (lent.TheVariants.Wanting budget) (accept b bytes) = ⊥
Lends (lent.TheVariants.Accepting budget chunk) (want b) = ⊥
Lends (lent.TheVariants.Accepting budget chunk) (accept b bytes) = (budget ≡ b) × (chunk.now ≡ bytes)

abbrev pub LendsAll : List LentCall → List Call → Type 0
LendsAll [] [] = Unit {0}
LendsAll [] (c ∷ cs) = ⊥
LendsAll (l ∷ ls) [] = ⊥
LendsAll (l ∷ ls) (c ∷ cs) = Lends l c × LendsAll ls cs

-- Every such list of calls can be lent, and is then the one that is made, by whichever lent calls.
pub record Laid (calls : List Call) : Type 0 where
  pub lent : List LentCall
  pub fits : AllHaveBits lent
  pub lends : LendsAll lent calls
  pub made : calls_in lent ≡ calls
  pub always : (others : List LentCall) → LendsAll others calls → calls_in others ≡ calls

abbrev pub EveryListLaid : Type 0
EveryListLaid = (calls : List Call) → Layable calls → Laid calls

-- ---- calls that are told in numbers: two for each, its budget and the length of its chunk, or FFFF hex for wanting; the chunks'
-- bytes stand one behind the other, and a chunk has what is there

abbrev pub is_wanting : ℕ → Bool
is_wanting len = eqb len 0xFFFF

abbrev pub call_with : ℕ → ℕ → List ℕ → Call
call_with budget len bytes = cond (is_wanting len) (want budget) (accept budget bytes)

abbrev pub behind_call : ℕ → List ℕ → List ℕ
behind_call len bytes = cond (is_wanting len) bytes (drop len bytes)

unfoldable pub calls_told : List ℕ → List ℕ → List Call
calls_told [] bytes = []
calls_told (budget ∷ []) bytes = []
calls_told (budget ∷ len ∷ rest) bytes = call_with budget len (take len bytes) ∷ calls_told rest (behind_call len bytes)

-- a list of calls, told so
abbrev pub lay_numbers : List Call → List ℕ
lay_numbers [] = []
lay_numbers (want budget ∷ cs) = budget ∷ 0xFFFF ∷ lay_numbers cs
lay_numbers (accept budget bytes ∷ cs) = budget ∷ length bytes ∷ lay_numbers cs

abbrev pub lay_chunks : List Call → List ℕ
lay_chunks [] = []
lay_chunks (want budget ∷ cs) = lay_chunks cs
lay_chunks (accept budget bytes ∷ cs) = bytes ++ lay_chunks cs

-- the slice of numbers has 16 bits for each: a budget is at most FFFF hex, and a chunk's length below it
abbrev pub Tellable : List Call → Type 0
Tellable [] = Unit {0}
Tellable (want budget ∷ cs) = (budget ≤ 0xFFFF) × Tellable cs
Tellable (accept budget bytes ∷ cs) = (budget ≤ 0xFFFF) × (length bytes < 0xFFFF) × Tellable cs

-- Every such list of calls can be told, in numbers of 16 bits, and is then the one that is read.
pub record InNumbers (calls : List Call) : Type 0 where
  pub fits : (i n : ℕ) → slice_get (lay_numbers calls) i ≡ Some n → n ≤ 0xFFFF
  pub read : calls_told (lay_numbers calls) (lay_chunks calls) ≡ calls

abbrev pub EveryListTold : Type 0
EveryListTold = (calls : List Call) → Tellable calls → InNumbers calls

-- an answer in one number: done 0, a chunk its length, a read-out its next offset, a refusal its number and 512
abbrev pub refused_number : Refusal → ℕ
refused_number r = 512 + number_of r

abbrev pub wanted_number : Result Wanted Refusal → ℕ
wanted_number (Ok (Wanted.Chunk n)) = n
wanted_number (Ok Wanted.Done) = 0
wanted_number (Err e) = refused_number e

abbrev pub answer_number : Answer → ℕ
answer_number (Wanting w) = wanted_number w
answer_number (Accepting (Ok r)) = r.next
answer_number (Accepting (Err e)) = refused_number e
