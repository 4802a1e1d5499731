-- Lists of calls of a read-out: where it stands behind them, and what its buffer holds.
-- Assumes nothing.
use Rattle.std.specs.Prelude.{None, Ok, Option, Some, slice_get}
use mathlib.Core.Path.{◌≡◌, refl, sym, ap, ◌∙◌}
use mathlib.Core.List.{List, [], ◌∷◌, ◌++◌, append_assoc, append-nil}
use Prim.Native.Nat.{ℕ, ◌+◌, ◌-◌, ◌≤◌, min}
use native.Mathlib.Nat.{add-zero}
use native.Mathlib.Omega.{arith}
use borrow.Author.Tests.{ltb-true, ltb-false, eqb-true}
use lib.Dec.{ltb}
use lib.ListN.{length, take, drop, length-append, length-take, length-drop}
use lib.Seq.{take_at, drop_at, length-take-le, drop-drop, take-add}
use Rattle.bus.proofs.Tests.{by_test}
use Rattle.bank.specs.declared.read_out.ReadOut.{ReadOut}
use Rattle.bank.specs.declared.refusal.Refusal.{Refusal}
use Rattle.bank.specs.Refusal.{first_of}
use Rattle.bank.specs.Chunk.{ChunkRule, Bounded}
use Rattle.bank.specs.declared.read_out.Wanted.{Wanted}
use Rattle.bank.specs.ReadOut.{advanced, is_done, laid, wanted_len, wanting, accept_checks, accepting, Acceptable}
use Rattle.bank.specs.Calls.{Call, want, accept, State, state_of, answer, step, after, answers_of, taken, accepted, HoldsChunk, HoldsChunks, bytes_in, joined, EveryCallAnsweredExactly, EveryListOfCalls, EveryChunkOfBank}
use Rattle.bank.specs.declared.call_list.Answer.TheVariants.{Wanting, Accepting}
use Rattle.bank.proofs.Done.{no_bytes, refuses, says_done, wants, wants_none}
use Rattle.bank.proofs.Reading as reading

-- ---- lists of chunks

total_append : (a b : List (List ℕ)) → bytes_in (a ++ b) ≡ bytes_in a + bytes_in b
total_append [] b = omega arith
total_append (x ∷ a) b = omega (arith, total_append a b)

joined_append : (a b : List (List ℕ)) → joined (a ++ b) ≡ joined a ++ joined b
joined_append [] b = refl
joined_append (x ∷ a) b = rw (joined_append a b) (sym (append_assoc x (joined a) (joined b)))

-- two chunks, the second laid behind the first, are laid as one
laid_behind : (d : List ℕ) (at : ℕ) (x y : List ℕ) → at ≤ length d → laid (laid d at x) (at + length x) y ≡ laid d at (x ++ y)
unfolding laid
laid_behind d at x y h =
    let p : List ℕ = take at d ++ x in
    let q : List ℕ = drop (at + length x) d in
    let n : length p ≡ at + length x = simp length-append (omega (arith, length-take-le at d h)) in
    let left : take (at + length x) (p ++ q) ≡ p = take_at p q (at + length x) n in
    let right : drop (at + length x + length y) (p ++ q) ≡ drop (at + length x + length y) d =
    sym (drop-drop (length y) (at + length x) (p ++ q)) ∙ ap (drop (length y)) (drop_at p q (at + length x) n) ∙ drop-drop (length y) (at + length x) d in
    let both : at + length x + length y ≡ at + length (x ++ y) = simp length-append (omega arith) in
    ap (λ (r : List ℕ). r ++ y ++ drop (at + length x + length y) (p ++ q)) left
    ∙ ap (λ (r : List ℕ). p ++ y ++ r) right
    ∙ ap (λ (r : List ℕ). r ++ drop (at + length x + length y) d) (append_assoc (take at d) x y)
    ∙ ap (λ (k : ℕ). take at d ++ (x ++ y) ++ drop k d) both

pub laid_length : (d : List ℕ) (at : ℕ) (x : List ℕ) → at + length x ≤ length d → length (laid d at x) ≡ length d
unfolding laid
laid_length d at x h = simp (length-append, length-take, length-drop) (omega arith)

-- ---- one call

module _ (chunk : ChunkRule) (s : State) (c : Call) where
  -- the state behind an accepted chunk
  abbrev pub behind_chunk : List ℕ → State
  behind_chunk bytes = state_of (advanced s.out (length bytes)) (laid s.buffer s.out.next bytes)

  -- A call leaves its state as it is, or takes a chunk. What holds in both cases holds behind every call.
  pub by_call : (P : State → List (List ℕ) → Type 0) → P s []
      → ((budget : ℕ) (bytes : List ℕ) → c ≡ accept budget bytes → Acceptable chunk s.out budget bytes s.buffer → P (behind_chunk bytes) (bytes ∷ []))
      → P (step chunk s c) (taken chunk s c)
  by_call P left took = of c refl
    where
      of : (d : Call) → c ≡ d → P (step chunk s d) (taken chunk s d)
      of (want budget) is = left
      of (accept budget bytes) is = go (first_of (accept_checks chunk s.out budget bytes s.buffer)) refl
        where
          go : (o : Option Refusal) → first_of (accept_checks chunk s.out budget bytes s.buffer) ≡ o
              → P (step chunk s (accept budget bytes)) (taken chunk s (accept budget bytes))
          go (Some e) f = let both = reading.refused chunk s.out budget bytes s.buffer f in rw (← both.0, ← both.1) left
          go None f =
              let both = reading.taken chunk s.out budget bytes s.buffer f in
              rw (← both.0, ← both.1) (took budget bytes is (reading.acceptable chunk s.out budget bytes s.buffer f))

  -- a read-out keeps its mode
  pub mode_stays : (step chunk s c).out.mode ≡ s.out.mode
  mode_stays = by_call (λ t xs. t.out.mode ≡ s.out.mode) refl (λ budget bytes is ok. refl)

-- from a state to the one that takes these chunks, at most one
record Stepped (s t : State) (xs : List (List ℕ)) : Type 0 where
  next_is : t.out.next ≡ s.out.next + bytes_in xs
  bank_stays : t.out.bank ≡ s.out.bank
  length_stays : t.out.length ≡ s.out.length
  within : t.out.next ≤ s.out.length
  -- what is laid behind it is laid behind its chunk
  laid_on : (y : List ℕ) → laid t.buffer t.out.next y ≡ laid s.buffer s.out.next (joined xs ++ y)
  room_stays : length t.buffer ≡ length s.buffer
  -- each chunk has a byte, unless the read-out is done
  moved : min (length xs) (s.out.length - s.out.next) ≤ bytes_in xs

module _ (chunk : ChunkRule) (rule : Bounded chunk) where
  stepped : (s : State) (c : Call) → s.out.next ≤ s.out.length → Stepped s (step chunk s c) (taken chunk s c)
  stepped s c h = by_call chunk s c (Stepped s) unmoved (λ budget bytes is ok. moved_on budget bytes ok)
    where
      r : ReadOut
      r = s.out

      left : ℕ
      left = r.length - r.next

      unmoved : Stepped s s []
      unmoved = record { next_is = omega arith; bank_stays = refl; length_stays = refl; within = h; laid_on = λ y. refl; room_stays = refl; moved = omega arith }

      moved_on : (budget : ℕ) (bytes : List ℕ) → Acceptable chunk r budget bytes s.buffer → Stepped s (behind_chunk chunk s c bytes) (bytes ∷ [])
      moved_on budget bytes ok =
          let most : wanted_len chunk r budget ≤ left = rule.within r.bank r.next left budget in
          let least : min 1 left ≤ wanted_len chunk r budget = by_test (ltb 0 left) (λ t. omega (arith, rule.some r.bank r.next left budget (ltb-true 0 left t) ok.valid.paid)) (λ t. omega (arith, ltb-false 0 left t)) in
          record {
            next_is = omega arith;
            bank_stays = refl;
            length_stays = refl;
            within = omega (arith, ok);
            laid_on = λ y. rw append-nil (laid_behind s.buffer r.next bytes y (omega (arith, ok)));
            room_stays = laid_length s.buffer r.next bytes (omega (arith, ok));
            moved = omega (arith, ok);
          }

  -- ---- all calls

  record Ran (s : State) (calls : List Call) : Type 0 where
    next_is : (after chunk s calls).out.next ≡ s.out.next + bytes_in (accepted chunk s calls)
    bank_stays : (after chunk s calls).out.bank ≡ s.out.bank
    length_stays : (after chunk s calls).out.length ≡ s.out.length
    same_mode : (after chunk s calls).out.mode ≡ s.out.mode
    within : (after chunk s calls).out.next ≤ s.out.length
    buffer_is : (after chunk s calls).buffer ≡ laid s.buffer s.out.next (joined (accepted chunk s calls))
    room_stays : length (after chunk s calls).buffer ≡ length s.buffer
    moved : min (length (accepted chunk s calls)) (s.out.length - s.out.next) ≤ bytes_in (accepted chunk s calls)

  ran : (s : State) (calls : List Call) → s.out.next ≤ s.out.length → Ran s calls
  ran s [] h =
      record {
        next_is = omega arith;
        bank_stays = refl;
        length_stays = refl;
        same_mode = refl;
        within = h;
        buffer_is = sym (reading.nothing_laid s.buffer s.out.next);
        room_stays = refl;
        moved = omega arith;
      }
  ran s (c ∷ cs) h =
      let one = stepped s c h in
      let first = taken chunk s c in
      let later = accepted chunk (step chunk s c) cs in
      let rest = ran (step chunk s c) cs (omega (arith, one)) in
      let total = total_append first later in
      record {
        next_is = omega (arith, one, rest, total);
        bank_stays = rest.bank_stays ∙ one.bank_stays;
        length_stays = rest.length_stays ∙ one.length_stays;
        same_mode = rest.same_mode ∙ mode_stays chunk s c;
        within = omega (arith, one, rest);
        buffer_is = rest.buffer_is ∙ one.laid_on (joined later) ∙ ap (laid s.buffer s.out.next) (sym (joined_append first later));
        room_stays = rest.room_stays ∙ one.room_stays;
        moved = simp length-append (omega (arith, one, rest, total));
      }

  -- ---- chunks that hold a bank's bytes

  module _ (bank : List ℕ) where
    -- an accepted chunk is the bank's bytes from the next offset on; one that is accepted when the read-out is done is empty
    of_bank : (s : State) (budget : ℕ) (bytes : List ℕ) → Acceptable chunk s.out budget bytes s.buffer
        → HoldsChunk chunk bank s (accept budget bytes) → bytes ≡ take (length bytes) (drop s.out.next bank)
    unfolding wanting
    of_bank s budget bytes ok held =
        by_test (is_done s.out)
        (λ t.
        let none_left : bytes ≡ [] = no_bytes bytes (omega (arith, ok, wants_none chunk rule s.out budget (eqb-true s.out.next s.out.length t))) in
        rw none_left)
        (λ t. held (rw (reading.valid_passes s.out budget ok.valid, t) (ap (λ (n : ℕ). Ok (Wanted.Chunk n)) (sym ok.exact))))

    taken_of_bank : (s : State) (c : Call) → HoldsChunk chunk bank s c
        → joined (taken chunk s c) ≡ take (bytes_in (taken chunk s c)) (drop s.out.next bank)
    taken_of_bank s c held =
        by_call chunk s c (λ t xs. joined xs ≡ take (bytes_in xs) (drop s.out.next bank)) refl
        (λ budget bytes is ok. rw (append-nil, add-zero) (of_bank s budget bytes ok (rw is at held)))

    all_of_bank : (s : State) (calls : List Call) → s.out.next ≤ s.out.length → HoldsChunks chunk bank s calls
        → joined (accepted chunk s calls) ≡ take (bytes_in (accepted chunk s calls)) (drop s.out.next bank)
    all_of_bank s [] h held = refl
    all_of_bank s (c ∷ cs) h held =
        let one = stepped s c h in
        let first = taken chunk s c in
        let later = accepted chunk (step chunk s c) cs in
        let n = bytes_in first in
        let m = bytes_in later in
        joined_append first later
        ∙ ap (λ (l : List ℕ). l ++ joined later) (taken_of_bank s c held.0)
        ∙ ap (λ (l : List ℕ). take n (drop s.out.next bank) ++ l)
        (all_of_bank (step chunk s c) cs (omega (arith, one)) held.1
        ∙ ap (λ (k : ℕ). take m (drop k bank)) one.next_is
        ∙ ap (take m) (sym (drop-drop n s.out.next bank)))
        ∙ sym (take-add n m (drop s.out.next bank))
        ∙ ap (λ (k : ℕ). take k (drop s.out.next bank)) (sym (total_append first later))

  -- ---- the answers

  -- what a call answers depends on its buffer's length alone
  pub answer_same : (s : State) (buffer : List ℕ) (c : Call) → length s.buffer ≡ length buffer → answer chunk s c ≡ answer chunk (state_of s.out buffer) c
  unfolding accepting
  answer_same s buffer (want budget) e = refl
  answer_same s buffer (accept budget bytes) e = rw e

  -- the answer of a call behind others
  pub answer_behind : (s : State) (before : List Call) (c : Call) (behind : List Call)
      → slice_get (answers_of chunk s (before ++ c ∷ behind)) (length before) ≡ Some (answer chunk (after chunk s before) c)
  answer_behind s [] c behind = refl
  answer_behind s (b ∷ before) c behind = answer_behind (step chunk s b) before c behind

pub every_call_answered_exactly : EveryCallAnsweredExactly
every_call_answered_exactly chunk s budget bytes =
    record {
      want_refused = λ {e} h. ap Wanting (refuses chunk s.out budget h);
      says_done = λ v h. ap Wanting (says_done chunk s.out budget v h);
      wants = λ v h. ap Wanting (wants chunk s.out budget v h);
      accept_refused = λ {e} h. ap Accepting (sym (reading.refused chunk s.out budget bytes s.buffer h).0);
      accepts = λ a. ap Accepting ((reading.every_chunk_taken_exactly chunk s.out budget bytes s.buffer).accepted a);
    }

pub every_list_of_calls : EveryListOfCalls
every_list_of_calls chunk rule s h calls =
    let r = ran chunk rule s calls h in
    record {
      next_is = r.next_is;
      bank_stays = r.bank_stays;
      length_stays = r.length_stays;
      mode_stays = r.same_mode;
      within = r.within;
      buffer_is = r.buffer_is;
      room_stays = r.room_stays;
      ends = λ k. omega (arith, r);
    }

pub every_chunk_of_bank : EveryChunkOfBank
every_chunk_of_bank chunk rule bank s h calls held = all_of_bank chunk rule bank s calls h held
