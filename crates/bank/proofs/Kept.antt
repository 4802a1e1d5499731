-- A property of the next offset that each chunk keeps holds where every accepted chunk begins and ends.
-- Assumes nothing.
use mathlib.Core.Path.{◌≡◌, refl}
use mathlib.Core.List.{List, [], ◌∷◌, ◌++◌}
use Prim.Native.Nat.{ℕ, ◌+◌, ◌-◌, ◌≤◌, ◌<◌}
use native.Mathlib.Nat.{add-zero, zero-add}
use native.Mathlib.Omega.{arith}
use borrow.Author.Tests.{leb-true, leb-false}
use lib.Dec.{leb}
use lib.ListN.{length}
use Rattle.bus.proofs.Tests.{by_test}
use Rattle.bank.specs.Chunk.{ChunkRule, Bounded}
use Rattle.bank.specs.ReadOut.{fresh, Acceptable}
use Rattle.bank.specs.Calls.{Call, State, state_of, step, taken, accepted, bytes_in}
use Rattle.bank.specs.Kept.{Kept, InOneChunk, EveryKeptProperty}
use Rattle.bank.proofs.Calls.{behind_chunk, by_call, every_list_of_calls}

-- ---- a list of chunks, from an offset on

module _ (stands : ℕ → Type 0) where
  -- it holds where each chunk begins, and where the last one ends
  AllStand : ℕ → List (List ℕ) → Type 0
  AllStand p [] = stands p
  AllStand p (x ∷ xs) = stands p × AllStand (p + length x) xs

  first_stands : (p : ℕ) (xs : List (List ℕ)) → AllStand p xs → stands p
  unfolding AllStand
  first_stands p [] a = a
  first_stands p (x ∷ xs) a = a.0

  each_stands : (p : ℕ) (before : List (List ℕ)) (bytes : List ℕ) (behind : List (List ℕ)) → AllStand p (before ++ bytes ∷ behind)
      → stands (p + bytes_in before) × stands (p + bytes_in before + length bytes)
  unfolding AllStand
  each_stands p [] bytes behind a = rw add-zero (a.0, first_stands (p + length bytes) behind a.1)
  each_stands p (x ∷ before) bytes behind a =
      let rest = each_stands (p + length x) before bytes behind a.1 in
      let begins : p + length x + bytes_in before ≡ p + bytes_in (x ∷ before) = omega arith in
      (rw begins at rest.0, rw begins at rest.1)

  -- n bytes from p + o on, which it never parts
  one_chunk : (p o n : ℕ) (xs : List (List ℕ)) → AllStand p xs → ((q : ℕ) → stands q → p + o < q → p + o + n ≤ q) → o < bytes_in xs → InOneChunk o n xs
  unfolding AllStand
  one_chunk p o n [] a whole h = let z : ⊥ = omega arith in absurd z
  one_chunk p o n (x ∷ xs) a whole h =
      by_test (leb (length x) o)
      (λ t.
      let passed = leb-true (length x) o t in
      let later = one_chunk (p + length x) (o - length x) n xs a.1 (λ q s k. omega (arith, whole q s (omega arith))) (omega arith) in
      record {
        before = x ∷ later.before;
        bytes = later.bytes;
        behind = later.behind;
        is = rw (← later.is) refl;
        from = omega (arith, later.from);
        to = omega (arith, later.to);
      })
      (λ t.
      let here = leb-false (length x) o t in
      record {
        before = [];
        bytes = x;
        behind = xs;
        is = refl;
        from = omega arith;
        to = omega (arith, whole (p + length x) (first_stands (p + length x) xs a.1) (omega arith));
      })

-- ---- the accepted chunks of a list of calls

module _ (chunk : ChunkRule) (rule : Bounded chunk) (bank len : ℕ) (stands : ℕ → Type 0) (kept : Kept chunk bank len stands) where
  -- a read-out of the bank and the length, where the property holds
  record Standing (s : State) : Type 0 where
    of_bank : s.out.bank ≡ bank
    of_len : s.out.length ≡ len
    ahead : s.out.next ≤ len
    here : stands s.out.next

  record Stepped (s t : State) (xs : List (List ℕ)) : Type 0 where
    stays : Standing t
    behind : (later : List (List ℕ)) → AllStand stands t.out.next later → AllStand stands s.out.next (xs ++ later)

  stepped : (s : State) (c : Call) → Standing s → Stepped s (step chunk s c) (taken chunk s c)
  unfolding AllStand
  stepped s c k = by_call chunk s c (Stepped s) (record { stays = k; behind = λ later a. a }) (λ budget bytes is ok. moved_on budget bytes ok)
    where
      moved_on : (budget : ℕ) (bytes : List ℕ) → Acceptable chunk s.out budget bytes s.buffer → Stepped s (behind_chunk chunk s c bytes) (bytes ∷ [])
      moved_on budget bytes ok =
          let exact : length bytes ≡ chunk bank s.out.next (len - s.out.next) budget = rw (k.of_bank, k.of_len) at ok.exact in
          record {
            stays =
                record {
                  of_bank = k.of_bank;
                  of_len = k.of_len;
                  ahead = omega (arith, exact, k.ahead, rule.within bank s.out.next (len - s.out.next) budget);
                  here = rw exact (kept.next s.out.next budget k.ahead k.here);
                };
            behind = λ later a. (k.here, a);
          }

  all_stand : (s : State) (calls : List Call) → Standing s → AllStand stands s.out.next (accepted chunk s calls)
  unfolding AllStand
  all_stand s [] k = k.here
  all_stand s (c ∷ cs) k =
      let one = stepped s c k in
      one.behind (accepted chunk (step chunk s c) cs) (all_stand (step chunk s c) cs one.stays)

pub every_kept_property : EveryKeptProperty
every_kept_property chunk rule bank len stands kept mode buffer calls =
    record {
      each = λ before bytes behind e.
          let both = each_stands stands 0 before bytes behind (rw e at all) in
          rw zero-add at both;
      in_one = λ o n whole h.
          one_chunk stands 0 o n (accepted chunk start calls) all (λ q s k. omega (arith, whole q s (omega arith)))
          (omega (arith, (every_list_of_calls chunk rule start (omega arith) calls).next_is));
    }
  where
    start : State
    start = state_of (fresh bank len mode) buffer

    all : AllStand stands 0 (accepted chunk start calls)
    all = all_stand chunk rule bank len stands kept start calls (record { of_bank = refl; of_len = refl; ahead = omega arith; here = kept.first })
