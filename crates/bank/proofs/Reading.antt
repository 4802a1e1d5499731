-- Laws of one call of a read-out, for any chunk rule that has the bounds.
-- Assumes nothing.
use Rattle.std.specs.Prelude.{Err, None, Ok, Option, Some}
use mathlib.Core.Path.{◌≡◌, refl, sym, ap, ◌∙◌}
use mathlib.Core.List.{List, [], ◌∷◌, ◌++◌, append_assoc}
use Prim.Native.Nat.{ℕ, ◌+◌, ◌-◌, ◌≤◌, ◌<◌}
use native.Mathlib.Omega.{arith}
use borrow.Author.Tests.{ltb-false, eqb-false, lt-ltb, le-ltb, eq-eqb, ne_eqb, eqb-true, not-false}
use lib.Dec.{eqb, ltb}
use lib.ListN.{length, take, drop}
use lib.Seq.{paste, paste-zero, take-length, drop-drop}
use Rattle.bank.specs.declared.refusal.Refusal.{Refusal}
use Rattle.bank.specs.declared.refusal.Refusal.TheVariants.{SliceTooShort, WrongChunkLength}
use Rattle.bank.specs.declared.read_out.ReadOut.{ReadOut}
use Rattle.bank.specs.Refusal.{Check, first_of}
use Rattle.bank.specs.Chunk.{ChunkRule}
use Rattle.bank.specs.ReadOut.{advanced, want_checks, short_buffer, laid, wanted_len, other_chunk, accept_checks, accepting, buffer_after, Valid, Acceptable, EveryReadOutStartedExactly, EveryChunkTakenExactly}
use Rattle.bank.proofs.Checks.{not_both, Passed, refused_first, passed_first, passed, or_left, or_right}

pub every_read_out_started_exactly : EveryReadOutStartedExactly
unfolding first_of
every_read_out_started_exactly bank len mode =
    record {
      accepted = λ h. rw (le-ltb 256 len h, le-ltb len 0 (omega arith));
      refused = λ h. rw (lt-ltb 256 len h);
    }

valid_of : (r : ReadOut) (budget : ℕ) → Passed (want_checks r budget) → Valid r budget
valid_of r budget tests =
    let long = ltb 256 r.length in
    let past = ltb r.length r.next in
    omega (arith, ltb-false 256 r.length (or_left long past tests.0), ltb-false r.length r.next (or_right long past tests.0), eqb-false budget 0 tests.1.0)

pub valid : (r : ReadOut) (budget : ℕ) → first_of (want_checks r budget) ≡ None → Valid r budget
valid r budget e = valid_of r budget (passed (want_checks r budget) e)

pub valid_passes : (r : ReadOut) (budget : ℕ) → Valid r budget → first_of (want_checks r budget) ≡ None
unfolding first_of
valid_passes r budget v = rw (le-ltb 256 r.length v.short, le-ltb r.length r.next v.ahead, ne_eqb budget 0 (omega arith))

-- which refusal accepting has
module _ (chunk : ChunkRule) (r : ReadOut) (budget : ℕ) (bytes buffer : List ℕ) where
  rest : List Check
  rest = short_buffer r buffer ∷ other_chunk chunk r budget bytes ∷ []

  pub refuses_want : {e : Refusal} → first_of (want_checks r budget) ≡ Some e → first_of (accept_checks chunk r budget bytes buffer) ≡ Some e
  unfolding rest
  refuses_want h = refused_first (want_checks r budget) rest h

  module _ (sound : first_of (want_checks r budget) ≡ None) where
    pub refuses_buffer : length buffer < r.length → first_of (accept_checks chunk r budget bytes buffer) ≡ Some SliceTooShort
    unfolding first_of rest
    refuses_buffer h = passed_first (want_checks r budget) rest sound ∙ rw (lt-ltb (length buffer) r.length h)

    pub refuses_chunk : r.length ≤ length buffer → (length bytes ≡ wanted_len chunk r budget → ⊥) → first_of (accept_checks chunk r budget bytes buffer) ≡ Some WrongChunkLength
    unfolding first_of rest
    refuses_chunk h k = passed_first (want_checks r budget) rest sound ∙ rw (le-ltb (length buffer) r.length h, ne_eqb (length bytes) (wanted_len chunk r budget) k)

  -- and that it has none exactly where the call is acceptable
  pub acceptable : first_of (accept_checks chunk r budget bytes buffer) ≡ None → Acceptable chunk r budget bytes buffer
  acceptable e =
      let wanted = wanted_len chunk r budget in
      let tests = passed (accept_checks chunk r budget bytes buffer) e in
      record {
        valid = valid_of r budget (tests.0, (tests.1.0, tt));
        room = ltb-false (length buffer) r.length tests.1.1.0;
        exact = eqb-true (length bytes) wanted (not-false (eqb (length bytes) wanted) tests.1.1.1.0);
      }

  pub acceptable_passes : Acceptable chunk r budget bytes buffer → first_of (accept_checks chunk r budget bytes buffer) ≡ None
  unfolding first_of rest
  acceptable_passes a =
      passed_first (want_checks r budget) rest (valid_passes r budget a.valid)
      ∙ rw (le-ltb (length buffer) r.length a.room, eq-eqb (length bytes) (wanted_len chunk r budget) a.exact)

  -- a refusal answers itself, and leaves the buffer as it was
  pub refused : {e : Refusal} → first_of (accept_checks chunk r budget bytes buffer) ≡ Some e
      → (Err e ≡ accepting chunk r budget bytes buffer) × (buffer ≡ buffer_after chunk r budget bytes buffer)
  unfolding accepting buffer_after
  refused h = (rw h, rw h)

  pub taken : first_of (accept_checks chunk r budget bytes buffer) ≡ None
      → (Ok (advanced r (length bytes)) ≡ accepting chunk r budget bytes buffer) × (laid buffer r.next bytes ≡ buffer_after chunk r budget bytes buffer)
  unfolding accepting buffer_after
  taken h = (rw h, rw h)

  only : {s : ReadOut} → accepting chunk r budget bytes buffer ≡ Ok s → Acceptable chunk r budget bytes buffer
  only {s} e = go (first_of (accept_checks chunk r budget bytes buffer)) refl
    where
      go : (o : Option Refusal) → first_of (accept_checks chunk r budget bytes buffer) ≡ o → Acceptable chunk r budget bytes buffer
      go None f = acceptable f
      go (Some x) f = not_both (sym ((refused f).0 ∙ e))

  pub handed_on : {s : ReadOut} → accepting chunk r budget bytes buffer ≡ Ok s → s ≡ advanced r (length bytes)
  handed_on {s} e =
      let same : Ok s ≡ Ok (advanced r (length bytes)) = sym e ∙ sym (taken (acceptable_passes (only e))).0 in
      cc

  leaves : {e : Refusal} → accepting chunk r budget bytes buffer ≡ Err e → buffer_after chunk r budget bytes buffer ≡ buffer
  leaves {e} h = go (first_of (accept_checks chunk r budget bytes buffer)) refl
    where
      go : (o : Option Refusal) → first_of (accept_checks chunk r budget bytes buffer) ≡ o → buffer_after chunk r budget bytes buffer ≡ buffer
      go None f = not_both ((taken f).0 ∙ h)
      go (Some x) f = sym (refused f).1

pub every_chunk_taken_exactly : EveryChunkTakenExactly
every_chunk_taken_exactly chunk r budget bytes buffer =
    record {
      accepted = λ a. sym (taken chunk r budget bytes buffer (acceptable_passes chunk r budget bytes buffer a)).0;
      stored = λ a. sym (taken chunk r budget bytes buffer (acceptable_passes chunk r budget bytes buffer a)).1;
      only = λ {s} e. only chunk r budget bytes buffer e;
      refused = λ {e} h. leaves chunk r budget bytes buffer h;
    }

-- all bytes pasted into a buffer are laid in
pub paste_all : (d : List ℕ) (at : ℕ) (s : List ℕ) (n : ℕ) → n ≡ length s → paste d at s n ≡ laid d at s
unfolding laid
paste_all d at s n e = rw (e, take-length)

-- bytes that are copied over a part of a buffer are laid in
pub part_laid : (buffer : List ℕ) (at n : ℕ) (bytes : List ℕ) {new : List ℕ} → new ≡ bytes → length bytes ≡ n
    → take at buffer ++ (new ++ drop (at + n - at) (drop at buffer)) ≡ laid buffer at bytes
unfolding laid
part_laid buffer at n bytes e l =
    let part : at + n - at ≡ length bytes = omega arith in
    ap (λ (l : List ℕ). take at buffer ++ (l ++ drop (at + n - at) (drop at buffer))) e
    ∙ ap (λ (k : ℕ). take at buffer ++ (bytes ++ drop k (drop at buffer))) part
    ∙ ap (λ (l : List ℕ). take at buffer ++ (bytes ++ l)) (drop-drop (length bytes) at buffer)
    ∙ sym (append_assoc (take at buffer) bytes (drop (at + length bytes) buffer))

pub nothing_laid : (d : List ℕ) (at : ℕ) → laid d at [] ≡ d
unfolding laid
nothing_laid d at = sym (paste-zero d at [])
