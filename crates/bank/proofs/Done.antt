-- What a read-out wants, and what "done" means for any chunk rule that has the bounds.
-- Assumes nothing.
use Rattle.std.specs.Prelude.{Err, None, Ok, Option, Some}
use mathlib.Core.Path.{◌≡◌, refl, sym, ap, ◌∙◌}
use mathlib.Core.List.{List, [], ◌∷◌}
use Prim.Native.Nat.{ℕ, ◌-◌, ◌≤◌, ◌<◌}
use native.Mathlib.Nat.{add-zero}
use native.Mathlib.Omega.{arith}
use borrow.Author.Tests.{eq-eqb, ne_eqb, eqb-true}
use lib.ListN.{length}
use Rattle.bus.proofs.Tests.{by_test}
use Rattle.bank.specs.declared.refusal.Refusal.{Refusal}
use Rattle.bank.specs.declared.read_out.ReadOut.{ReadOut}
use Rattle.bank.specs.declared.read_out.Wanted.TheVariants.{Done, Chunk}
use Rattle.bank.specs.Refusal.{first_of}
use Rattle.bank.specs.Chunk.{ChunkRule, Bounded}
use Rattle.bank.specs.ReadOut.{rule_of, is_done, want_checks, wanted_len, wanting, accept_checks, accepting, buffer_after, Valid, EveryChunkWanted, EveryReadOutDoneRight}
use Rattle.bank.proofs.Reading.{valid_passes, refused, taken, every_chunk_taken_exactly, nothing_laid}

-- what wanting answers
module _ (chunk : ChunkRule) (r : ReadOut) (budget : ℕ) where
  pub refuses : {e : Refusal} → first_of (want_checks r budget) ≡ Some e → wanting chunk r budget ≡ Err e
  unfolding wanting
  refuses h = rw h

  pub says_done : Valid r budget → r.next ≡ r.length → wanting chunk r budget ≡ Ok Done
  unfolding wanting
  says_done v h = rw (valid_passes r budget v, eq-eqb r.next r.length h)

  pub wants : Valid r budget → r.next < r.length → wanting chunk r budget ≡ Ok (Chunk (wanted_len chunk r budget))
  unfolding wanting
  wants v h = rw (valid_passes r budget v, ne_eqb r.next r.length (omega arith))

pub no_bytes : (l : List ℕ) → length l ≤ 0 → l ≡ []
no_bytes [] h = refl
no_bytes (x ∷ l) h = let z : ⊥ = omega arith in absurd z

module _ (chunk : ChunkRule) (rule : Bounded chunk) (r : ReadOut) (budget : ℕ) where
  -- a read-out that is done wants nothing
  pub wants_none : r.next ≡ r.length → wanted_len chunk r budget ≤ 0
  wants_none h = omega (arith, rule.within r.bank r.next (r.length - r.next) budget)

  -- one that is not wants a chunk
  only_then : first_of (want_checks r budget) ≡ None → wanting chunk r budget ≡ Ok Done → r.next ≡ r.length
  unfolding wanting
  only_then sound e =
      by_test (is_done r)
      (λ t. eqb-true r.next r.length t)
      (λ t.
      let chunk_told : Ok (Chunk (wanted_len chunk r budget)) ≡ Ok Done = rw (sound, t) at e in
      let z : ◌≡◌ {A = ℕ} 0 1 = cc in
      let y : ⊥ = omega arith in
      absurd y)

  only_empty : (bytes buffer : List ℕ) {s : ReadOut} → r.next ≡ r.length → accepting chunk r budget bytes buffer ≡ Ok s → bytes ≡ []
  only_empty bytes buffer h e = no_bytes bytes (omega (arith, wants_none h, ((every_chunk_taken_exactly chunk r budget bytes buffer).only e).exact))

  stays : (buffer : List ℕ) → Valid r budget → r.next ≡ r.length → r.length ≤ length buffer → accepting chunk r budget [] buffer ≡ Ok r
  stays buffer v h k =
      (every_chunk_taken_exactly chunk r budget [] buffer).accepted (record { valid = v; room = k; exact = omega (arith, wants_none h) })
      ∙ ap (λ (n : ℕ). Ok (record { bank = r.bank; length = r.length; next = n; mode = r.mode })) (add-zero r.next)

  unchanged : (buffer : List ℕ) → buffer_after chunk r budget [] buffer ≡ buffer
  unchanged buffer = go (first_of (accept_checks chunk r budget [] buffer)) refl
    where
      go : (o : Option Refusal) → first_of (accept_checks chunk r budget [] buffer) ≡ o → buffer_after chunk r budget [] buffer ≡ buffer
      go None f = sym (taken chunk r budget [] buffer f).1 ∙ nothing_laid buffer r.next
      go (Some x) f = sym (refused chunk r budget [] buffer f).1

pub every_chunk_wanted : EveryChunkWanted
every_chunk_wanted r budget v h = wants (rule_of r) r budget v h

pub every_read_out_done_right : EveryReadOutDoneRight
every_read_out_done_right chunk rule r budget v =
    record {
      says_done = λ h. says_done chunk r budget v h;
      only_then = λ e. only_then chunk rule r budget (valid_passes r budget v) e;
      only_empty = λ bytes buffer {s} h e. only_empty chunk rule r budget bytes buffer h e;
      stays = λ buffer h k. stays chunk rule r budget buffer v h k;
      unchanged = λ buffer. unchanged chunk rule r budget buffer;
    }
