-- Laws of calls that are told in numbers: every list can be told so, and what is read of the numbers is laid behind what was.
-- Assumes nothing.
use Rattle.std.specs.Prelude.{Some, slice_get}
use mathlib.Core.Path.{◌≡◌, refl, sym, ap, ◌∙◌}
use mathlib.Core.List.{List, [], ◌∷◌, ◌++◌, append_assoc, append-nil}
use Prim.Native.Nat.{ℕ, zero, suc, ◌+◌, ◌≤◌, ◌<◌}
use native.Mathlib.Omega.{arith}
use borrow.Author.Tests.{ne_eqb}
use lib.ListN.{length, set, take, drop, length-set, length-take}
use lib.Seq.{take-append_seam, drop-append_seam, drop-drop}
use Rattle.std.proofs.lemmas.List.{take_more_set, drop-set-lt, map-append, take_all, length-map}
use Rattle.bus.proofs.Lists.{no_element}
use Rattle.bank.specs.declared.call_list.Call.{Call as LentCall}
use Rattle.bank.specs.Calls.{Call, want, accept, call_of, calls_in, call_with, behind_call, calls_told, lay_numbers, lay_chunks, EveryListTold}

-- two numbers and those behind them
fit_two : (a b : ℕ) (rest : List ℕ) → a ≤ 0xFFFF → b ≤ 0xFFFF → ((i n : ℕ) → slice_get rest i ≡ Some n → n ≤ 0xFFFF)
    → (i n : ℕ) → slice_get (a ∷ b ∷ rest) i ≡ Some n → n ≤ 0xFFFF
fit_two a b rest p q r zero n e =
    let same : a ≡ n = cc in
    omega arith
fit_two a b rest p q r (suc zero) n e =
    let same : b ≡ n = cc in
    omega arith
fit_two a b rest p q r (suc (suc i)) n e = r i n e

pub every_list_told : EveryListTold
unfolding calls_told
every_list_told [] l = record { fits = λ i n e. no_element e; read = refl }
every_list_told (want budget ∷ cs) l =
    let r = every_list_told cs l.1 in
    record {
      fits = fit_two budget 0xFFFF (lay_numbers cs) l.0 (omega arith) r.fits;
      read = ap (λ (rest : List Call). want budget ∷ rest) r.read;
    }
every_list_told (accept budget bytes ∷ cs) l =
    let r = every_list_told cs l.2 in
    record {
      fits = fit_two budget (length bytes) (lay_numbers cs) l.0 (omega (arith, l.1)) r.fits;
      read =
          rw (ne_eqb (length bytes) 0xFFFF (omega (arith, l.1)), take-append_seam bytes (lay_chunks cs), drop-append_seam bytes (lay_chunks cs))
          (ap (λ (rest : List Call). accept budget bytes ∷ rest) r.read);
    }

-- ---- reading the numbers one call after the other

-- so many calls are laid, and with what is left to read they are all
pub record Reads (numbers chunks : List ℕ) (before calls : List LentCall) (count : ℕ) (left bytes : List ℕ) : Type 0 where
  pub few : count ≤ length before
  pub room : length calls ≡ length before
  pub told : calls_in (take count calls) ++ calls_told left bytes ≡ calls_told numbers chunks
  pub behind : drop count calls ≡ drop count before

module _ {numbers chunks : List ℕ} {before calls : List LentCall} {count : ℕ} {left bytes : List ℕ} (r : Reads numbers chunks before calls count left bytes) where
  -- two more numbers are a call more
  pub call_read : {budget len : ℕ} {rest bytes' : List ℕ} (call : LentCall) {calls' : List LentCall} → left ≡ budget ∷ len ∷ rest → count < length calls
      → call_of call ≡ call_with budget len (take len bytes) → bytes' ≡ behind_call len bytes → calls' ≡ set calls count call
      → Reads numbers chunks before calls' (count + 1) rest bytes'
  unfolding calls_told
  call_read {budget} {len} {rest} {bytes'} call {calls'} l h c b s =
      record {
        few = omega (arith, h, r.room);
        room = ap length s ∙ length-set calls count call ∙ r.room;
        told =
            rw (s, take_more_set calls count call h, map-append call_of (take count calls) (call ∷ []), b, append_assoc (calls_in (take count calls)) (call_of call ∷ []) (calls_told rest (behind_call len bytes)), c)
            (rw l at r.told);
        behind = ap (drop (count + 1)) s ∙ drop-set-lt (count + 1) calls count call (omega arith) ∙ sym (drop-drop 1 count calls) ∙ ap (drop 1) r.behind ∙ drop-drop 1 count before;
      }

  -- what is laid has its count
  laid_length : length (calls_in (take count calls)) ≡ count
  laid_length = simp (length-map, length-take) (omega (arith, r.few, r.room))

  -- fewer than two numbers tell none
  pub all_read : calls_told left bytes ≡ [] → calls_in (take count calls) ≡ take (length before) (calls_told numbers chunks)
  all_read none =
      let all : calls_in (take count calls) ≡ calls_told numbers chunks = sym (append-nil (calls_in (take count calls))) ∙ (rw none at r.told) in
      all ∙ sym (take_all (length before) (calls_told numbers chunks) (omega (arith, ap length all, laid_length, r.few)))
