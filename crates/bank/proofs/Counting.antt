-- The number of chunks beforehand is that of every run at one budget, for any chunk rule that has the bounds.
-- Assumes nothing.
use Rattle.std.specs.Prelude.{Err, None, Ok, Option, Result, Some}
use mathlib.Core.Path.{◌≡◌, refl, sym, ap, ◌∙◌}
use mathlib.Core.Bool.{true, false}
use mathlib.Core.List.{List, [], ◌∷◌, ◌++◌, map}
use Prim.Native.Nat.{ℕ, zero, suc, ◌+◌, ◌-◌, ◌≤◌, ◌<◌}
use native.Mathlib.Nat.{add-zero}
use native.Mathlib.Omega.{arith}
use borrow.Author.Tests.{eqb-false, eq-eqb, ne_eqb}
use lib.ListN.{length, length-map}
use Rattle.bus.proofs.Tests.{by_test}
use Rattle.bus.proofs.Lists.{no_element}
use Rattle.bank.specs.declared.layout.ChunkMode.{ChunkMode}
use Rattle.bank.specs.declared.refusal.Refusal.{Refusal}
use Rattle.bank.specs.declared.refusal.Refusal.TheVariants.{SliceTooShort, WrongChunkLength}
use Rattle.bank.specs.declared.read_out.ReadOut.{ReadOut}
use Rattle.bank.specs.declared.read_out.Wanted.{Wanted}
use Rattle.bank.specs.declared.read_out.Wanted.TheVariants.{Done, Chunk}
use Rattle.bank.specs.Refusal.{Check, first_of}
use Rattle.bank.specs.Chunk.{ChunkRule, chunk_in, Bounded}
use Rattle.bank.specs.ReadOut.{fresh, advanced, is_done, invalid, no_budget, want_checks, short_buffer, starting, laid, wanted_len, wanting, other_chunk, accept_checks, accepting, Valid, Acceptable}
use Rattle.bank.specs.Calls.{Call, want, accept, State, state_of, step, after, taken, accepted}
use Rattle.bank.specs.Count.{chunk_lengths, chunks_of, counted_chunks, asking, UntilDone, AtBudget, not_empty, ChunksAsRun, ChunksRefusedAsRun}
use Rattle.bank.proofs.Checks.{was_refused, was_answered, refused_first, passed_first}
use Rattle.bank.proofs.Modes.{every_mode_bounded}
use Rattle.bank.proofs.Reading.{valid, valid_passes, every_chunk_taken_exactly}
use Rattle.bank.proofs.Calls.{by_call, laid_length}

-- done and a chunk are not both wanted
not_done : {B : Type 0} {n : ℕ} → ◌≡◌ {A = Result Wanted Refusal} (Ok Done) (Ok (Chunk n)) → B
not_done e =
    let z : ◌≡◌ {A = ℕ} 0 1 = cc in
    let y : ⊥ = omega arith in
    absurd y

same_chunk : {m n : ℕ} → ◌≡◌ {A = Result Wanted Refusal} (Ok (Chunk m)) (Ok (Chunk n)) → m ≡ n
same_chunk e = cc

same_head : {a b : ℕ} {xs ys : List ℕ} → a ∷ xs ≡ b ∷ ys → a ≡ b
same_head e = cc

same_tail : {a b : ℕ} {xs ys : List ℕ} → a ∷ xs ≡ b ∷ ys → xs ≡ ys
same_tail e = cc

same_budget : {a b : ℕ} {xs ys : List ℕ} → accept a xs ≡ accept b ys → a ≡ b
same_budget e = cc

module _ (chunk : ChunkRule) (rule : Bounded chunk) (budget : ℕ) where
  -- ---- the chunks that are still wanted

  abbrev Left : ℕ → ReadOut → List ℕ
  Left most r = chunk_lengths chunk most r budget

  none_left : (most : ℕ) (r : ReadOut) → is_done r ≡ true → Left most r ≡ []
  unfolding chunk_lengths
  none_left zero r t = refl
  none_left (suc most) r t = rw t

  one_left : (most : ℕ) (r : ReadOut) → is_done r ≡ false
      → Left (suc most) r ≡ wanted_len chunk r budget ∷ Left most (advanced r (wanted_len chunk r budget))
  unfolding chunk_lengths
  one_left most r t = rw t

  none_remain : (most : ℕ) (r : ReadOut) → r.length ≤ r.next → r.next ≤ r.length → Left most r ≡ []
  none_remain most r h k = none_left most r (eq-eqb r.next r.length (omega arith))

  -- a read-out that is not done wants a byte
  some_byte : (r : ReadOut) → 1 ≤ budget → r.next ≤ r.length → is_done r ≡ false → 1 ≤ wanted_len chunk r budget
  some_byte r paid ahead t =
      rule.some r.bank r.next (r.length - r.next) budget (omega (arith, ahead, eqb-false r.next r.length t)) paid

  -- the first of them, and those behind it
  record First (most : ℕ) (r : ReadOut) (n : ℕ) : Type 0 where
    later : ℕ
    enough : r.length - (r.next + n) ≤ later
    in_front : Left most r ≡ n ∷ Left later (advanced r n)

  -- a chunk of the wanted length is the first; it is no longer than what remains
  module _ (r : ReadOut) {n : ℕ} (exact : n ≡ wanted_len chunk r budget) (ahead : r.next ≤ r.length) where
    within : r.next + n ≤ r.length
    within = omega (arith, rule.within r.bank r.next (r.length - r.next) budget)

    first : (most : ℕ) → r.length - r.next ≤ most → 1 ≤ n → First most r n
    first zero h some = let z : ⊥ = omega (arith, within) in absurd z
    first (suc k) h some =
        record {
          later = k;
          enough = omega (arith, within);
          in_front = one_left k r (ne_eqb r.next r.length (omega (arith, within))) ∙ ap (λ (w : ℕ). w ∷ Left k (advanced r w)) (sym exact);
        }

    -- behind it come those that are left behind it; an empty one changes nothing
    taken_first : (most : ℕ) (bytes : List ℕ) (later : List (List ℕ)) → length bytes ≡ n → r.length - r.next ≤ most
        → ((k : ℕ) → r.length - (r.next + n) ≤ k → map length (not_empty later) ≡ Left k (advanced r n))
        → map length (not_empty (bytes ∷ later)) ≡ Left most r
    taken_first most [] later e h rest =
        rest most (omega arith)
        ∙ ap (λ (m : ℕ). Left most (record { bank = r.bank; length = r.length; next = m; mode = r.mode }))
        (ap (λ (m : ℕ). r.next + m) (sym e) ∙ add-zero r.next)
    taken_first most (b ∷ bs) later e h rest =
        let f = first most h (omega arith) in
        ap (λ (l : List ℕ). length (b ∷ bs) ∷ l) (rest f.later f.enough)
        ∙ ap (λ (m : ℕ). m ∷ Left f.later (advanced r n)) e
        ∙ sym f.in_front

  -- as long as there is one for each byte, it does not matter how many they may be at most
  same_left : 1 ≤ budget → (j k : ℕ) (r : ReadOut) → r.next ≤ r.length → r.length - r.next ≤ j → r.length - r.next ≤ k → Left j r ≡ Left k r
  same_left paid zero k r ahead a b = none_remain zero r (omega arith) ahead ∙ sym (none_remain k r (omega arith) ahead)
  same_left paid (suc j) k r ahead a b =
      by_test (is_done r)
      (λ t. none_left (suc j) r t ∙ sym (none_left k r t))
      (λ t.
      let w = wanted_len chunk r budget in
      let some = some_byte r paid ahead t in
      let f = first r refl ahead k b some in
      one_left j r t
      ∙ ap (λ (l : List ℕ). w ∷ l) (same_left paid j f.later (advanced r w) (within r refl ahead) (omega arith) f.enough)
      ∙ sym f.in_front)

  -- ---- any list of accepting calls at the budget

  all_accepted : (calls : List Call) (most : ℕ) (s : State) → s.out.next ≤ s.out.length → s.out.length - s.out.next ≤ most → AtBudget budget calls
      → is_done (after chunk s calls).out ≡ true → map length (not_empty (accepted chunk s calls)) ≡ Left most s.out
  all_accepted [] most s h k b t = sym (none_left most s.out t)
  all_accepted (want x ∷ calls) most s h k b t = all_accepted calls most s h k b t
  all_accepted (accept x bytes ∷ calls) most s h k b t =
      by_call chunk s (accept x bytes)
      (λ (u : State) (xs : List (List ℕ)).
      is_done (after chunk u calls).out ≡ true → map length (not_empty (xs ++ accepted chunk u calls)) ≡ Left most s.out)
      (λ e. all_accepted calls most s h k b.1 e)
      (λ own given is ok e.
      let exact : length given ≡ wanted_len chunk s.out budget = ok.exact ∙ ap (wanted_len chunk s.out) (sym (same_budget is) ∙ b.0) in
      let next = state_of (advanced s.out (length given)) (laid s.buffer s.out.next given) in
      taken_first s.out exact h most given (accepted chunk next calls) refl k
      (λ j few. all_accepted calls j next (within s.out exact h) few b.1 e))
      t

  -- ---- wanting and accepting until done

  module _ (r : ReadOut) (v : Valid r budget) where
    wants_done : is_done r ≡ true → wanting chunk r budget ≡ Ok Done
    unfolding wanting
    wants_done t = rw (valid_passes r budget v, t)

    wants_chunk : is_done r ≡ false → wanting chunk r budget ≡ Ok (Chunk (wanted_len chunk r budget))
    unfolding wanting
    wants_chunk t = rw (valid_passes r budget v, t)

  -- a chunk of the wanted length is taken
  module _ (s : State) (v : Valid s.out budget) (room : s.out.length ≤ length s.buffer) (c : List ℕ) (exact : length c ≡ wanted_len chunk s.out budget) where
    abbrev behind : State
    behind = state_of (advanced s.out (length c)) (laid s.buffer s.out.next c)

    ok : Acceptable chunk s.out budget c s.buffer
    ok = record { valid = v; room = room; exact = exact }

    steps : step chunk s (accept budget c) ≡ behind
    steps = let exactly = every_chunk_taken_exactly chunk s.out budget c s.buffer in rw (exactly.accepted ok, exactly.stored ok)

    takes : taken chunk s (accept budget c) ≡ c ∷ []
    takes = rw ((every_chunk_taken_exactly chunk s.out budget c s.buffer).accepted ok)

    valid_on : Valid behind.out budget
    valid_on = omega (arith, v, within s.out exact v.ahead)

    room_on : behind.out.length ≤ length behind.buffer
    room_on = omega (arith, room, laid_length s.buffer s.out.next c (omega (arith, room, within s.out exact v.ahead)))

  as_wanted : (chunks : List (List ℕ)) (most : ℕ) (s : State) → Valid s.out budget → s.out.length ≤ length s.buffer → s.out.length - s.out.next ≤ most
      → UntilDone chunk budget s chunks → (accepted chunk s (asking budget chunks) ≡ chunks) × (map length chunks ≡ Left most s.out)
  as_wanted [] most s v room h u =
      by_test (is_done s.out)
      (λ t. (refl, sym (none_left most s.out t)))
      (λ t. not_done (sym u ∙ wants_chunk s.out v t))
  as_wanted (c ∷ cs) most s v room h u =
      by_test (is_done s.out)
      (λ t. not_done (sym (wants_done s.out v t) ∙ u.0))
      (λ t.
      let exact : length c ≡ wanted_len chunk s.out budget = same_chunk (sym u.0 ∙ wants_chunk s.out v t) in
      let f = first s.out exact v.ahead most h (omega (arith, exact, some_byte s.out v.paid v.ahead t)) in
      let next = steps s v room c exact in
      let rest = as_wanted cs f.later (behind s v room c exact) (valid_on s v room c exact) (room_on s v room c exact) f.enough (rw next at u.1) in (
        ap (λ (l : List (List ℕ)). l ++ accepted chunk (step chunk s (accept budget c)) (asking budget cs)) (takes s v room c exact)
            ∙ ap (λ (u : State). c ∷ accepted chunk u (asking budget cs)) next ∙ ap (λ (l : List (List ℕ)). c ∷ l) rest.0,
        ap (λ (l : List ℕ). length c ∷ l) rest.1 ∙ sym f.in_front,
      ))

  content : (chunks : List (List ℕ)) (most : ℕ) (s : State) → Valid s.out budget → s.out.length ≤ length s.buffer → s.out.length - s.out.next ≤ most
      → map length chunks ≡ Left most s.out → UntilDone chunk budget s chunks
  content [] most s v room h e =
      by_test (is_done s.out)
      (λ t. wants_done s.out v t)
      (λ t.
      let f = first s.out refl v.ahead most h (some_byte s.out v.paid v.ahead t) in
      let z : ⊥ = omega (arith, ap length (e ∙ f.in_front)) in
      absurd z)
  content (c ∷ cs) most s v room h e =
      by_test (is_done s.out)
      (λ t. let z : ⊥ = omega (arith, ap length (e ∙ none_left most s.out t)) in absurd z)
      (λ t.
      let f = first s.out refl v.ahead most h (some_byte s.out v.paid v.ahead t) in
      let both = e ∙ f.in_front in
      let exact : length c ≡ wanted_len chunk s.out budget = same_head both in (
        wants_chunk s.out v t ∙ ap (λ (n : ℕ). Ok (Chunk n)) (sym exact),
        rw (steps s v room c exact)
            (content cs f.later (behind s v room c exact) (valid_on s v room c exact) (room_on s v room c exact) (omega (arith, exact, f.enough))
            (same_tail both ∙ ap (λ (m : ℕ). Left f.later (advanced s.out m)) (sym exact))),
      ))

pub chunks_as_run : ChunksAsRun
unfolding counted_chunks
chunks_as_run bank len mode budget buffer short paid room =
    let r = fresh bank len mode in
    let s = state_of r buffer in
    let chunk = chunk_in mode in
    let rule = every_mode_bounded mode in
    let v : Valid r budget = record { short = short; ahead = omega arith; paid = paid } in
    let passes = valid_passes r budget v in
    record {
      by_wanting = λ chunks u.
          let both = as_wanted chunk rule budget chunks len s v room (omega arith) u in
          (both.0, rw passes (ap Ok (ap length (sym both.1) ∙ length-map chunks length)));
      any_content = λ chunks e. content chunk rule budget chunks len s v room (omega arith) e;
      by_accepting = λ calls b t.
          let all = all_accepted chunk rule budget calls len s (omega arith) (omega arith) b t in
          rw passes (ap Ok (ap length (sym all) ∙ length-map (not_empty (accepted chunk s calls)) length));
    }

-- ---- refusals

same_refusal : {a b : Refusal} → Some a ≡ Some b → b ≡ a
same_refusal e = cc

-- a refusal of accepting that is neither 13 nor 14 is one of wanting
by_want : (chunk : ChunkRule) (out : ReadOut) (budget : ℕ) (bytes buffer : List ℕ) {r : Refusal}
    → first_of (accept_checks chunk out budget bytes buffer) ≡ Some r → (r ≡ SliceTooShort → ⊥) → (r ≡ WrongChunkLength → ⊥)
    → first_of (want_checks out budget) ≡ Some r
unfolding first_of
by_want chunk out budget bytes buffer {r} e room exact = go (first_of (want_checks out budget)) refl
  where
    short : Check
    short = short_buffer out buffer

    other : Check
    other = other_chunk chunk out budget bytes

    neither : first_of (short ∷ other ∷ []) ≡ Some r → ⊥
    neither h =
        by_test short.applies
        (λ t. room (same_refusal (rw t at h)))
        (λ t. by_test other.applies (λ u. exact (same_refusal (rw (t, u) at h))) (λ u. no_element (rw (t, u) at h)))

    go : (o : Option Refusal) → first_of (want_checks out budget) ≡ o → first_of (want_checks out budget) ≡ Some r
    go None f = absurd (neither (sym (passed_first (want_checks out budget) (short ∷ other ∷ []) f) ∙ e))
    go (Some x) f = f ∙ sym (refused_first (want_checks out budget) (short ∷ other ∷ []) f) ∙ e

pub started : (bank len : ℕ) (mode : ChunkMode) {out : ReadOut} → starting bank len mode ≡ Ok out → out ≡ fresh bank len mode
started bank len mode e = (was_answered (invalid (fresh bank len mode) ∷ []) (fresh bank len mode) e).1

module _ (bank len : ℕ) (mode : ChunkMode) (budget : ℕ) where
  abbrev new : ReadOut
  new = fresh bank len mode

  pub refuses : {r : Refusal} → first_of (want_checks new budget) ≡ Some r → counted_chunks bank len mode budget ≡ Err r
  unfolding counted_chunks
  refuses e = rw e

  counts : first_of (want_checks new budget) ≡ None → counted_chunks bank len mode budget ≡ Ok (length (chunks_of bank len mode budget))
  unfolding counted_chunks
  counts e = rw e

  -- ---- a loop that counts them

  abbrev from : ℕ → List ℕ
  from next = chunk_lengths (chunk_in mode) len (record { bank = bank; length = len; next = next; mode = mode }) budget

  -- so many are counted up to an offset: with those from there on they are all
  pub record CountedTo (next count : ℕ) : Type 0 where
    pub sound : first_of (want_checks new budget) ≡ None
    pub ahead : next ≤ len
    pub few : count ≤ next
    pub all : count + length (from next) ≡ length (chunks_of bank len mode budget)

  pub none_counted : first_of (want_checks new budget) ≡ None → CountedTo 0 0
  none_counted e = record { sound = e; ahead = omega arith; few = omega arith; all = omega arith }

  module _ {next count : ℕ} (now : CountedTo next count) where
    -- with one chunk more
    pub one_counted : {n : ℕ} → next < len → n ≡ chunk_in mode bank next (len - next) budget → (1 ≤ n) × CountedTo (next + n) (count + 1)
    one_counted {n} less exact =
        let chunk = chunk_in mode in
        let rule = every_mode_bounded mode in
        let r : ReadOut = record { bank = bank; length = len; next = next; mode = mode } in
        let paid = (valid new budget now.sound).paid in
        let some : 1 ≤ n = omega (arith, exact, some_byte chunk rule budget r paid now.ahead (ne_eqb next len (omega arith))) in
        let fits = within chunk rule budget r exact now.ahead in
        let f = first chunk rule budget r exact now.ahead len (omega arith) some in
        let one_less : length (from next) ≡ suc (length (from (next + n))) =
        ap length f.in_front
        ∙ ap (λ (l : List ℕ). suc (length l)) (same_left chunk rule budget paid f.later len (advanced r n) fits f.enough (omega arith)) in
        (some, record { sound = now.sound; ahead = fits; few = omega (arith, now.few); all = omega (arith, now.all, one_less) })

    pub all_counted : len ≤ next → Ok count ≡ counted_chunks bank len mode budget
    all_counted h =
        let r : ReadOut = record { bank = bank; length = len; next = next; mode = mode } in
        let none = none_remain (chunk_in mode) (every_mode_bounded mode) budget len r h now.ahead in
        ap Ok (omega (arith, now.all, ap length none)) ∙ sym (counts now.sound)

pub chunks_refused_as_run : ChunksRefusedAsRun
unfolding wanting accepting
chunks_refused_as_run bank len mode budget =
    let new = fresh bank len mode in
    let chunk = chunk_in mode in
    record {
      not_started = λ {r} e.
          refuses bank len mode budget (refused_first (invalid new ∷ []) (no_budget budget ∷ []) (was_refused (invalid new ∷ []) new e));
      not_wanted = λ {out} {r} s e. refuses bank len mode budget (was_refused (want_checks new budget) _ (rw (started bank len mode s) at e));
      not_accepted = λ {out} {r} bytes buffer s e room exact.
          refuses bank len mode budget
          (by_want chunk new budget bytes buffer
          (was_refused (accept_checks chunk new budget bytes buffer) _ (rw (started bank len mode s) at e)) room exact);
    }
