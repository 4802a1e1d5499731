-- Laws of bytes laid one behind the other into a slice, as far as it goes.
-- Assumes nothing.
use mathlib.Core.Path.{◌≡◌, refl, sym, ap, ◌∙◌}
use mathlib.Core.List.{List, [], ◌∷◌, ◌++◌}
use Prim.Native.Nat.{ℕ, suc, ◌+◌, ◌≤◌}
use native.Mathlib.Nat.{zero-add, add-zero, add-suc, suc-add}
use native.Mathlib.Omega.{arith}
use lib.ListN.{length, take, drop, set, length-set, take-append-drop}
use lib.Seq.{sets, set_out, length-sets, take_at, length-take-le}
use Rattle.bus.specs.Value.{laid_into}
use Rattle.bus.proofs.Lists.{laid_whole, sets_laid}

module _ {A : Type 0} where
  pub sets_append : (l : List A) (i : ℕ) (xs ys : List A) → sets l i (xs ++ ys) ≡ sets (sets l i xs) (i + length xs) ys
  sets_append l i [] ys = rw add-zero
  sets_append l i (x ∷ xs) ys = sets_append (set l i x) (suc i) xs ys ∙ rw (suc-add, add-suc)

  -- nothing is stored behind the end
  pub sets_behind : (l : List A) (i : ℕ) (xs : List A) → length l ≤ i → sets l i xs ≡ l
  sets_behind l i [] h = refl
  sets_behind l i (x ∷ xs) h = sets_behind (set l i x) (suc i) xs (rw length-set (omega arith)) ∙ set_out l i x h

  -- so a slice that is full takes no more
  pub sets_full : (l : List A) (at i : ℕ) (xs : List A) → i ≤ length xs → length l ≤ at + i → sets l at (take i xs) ≡ sets l at xs
  sets_full l at i xs k h =
      let all : sets l at xs ≡ sets (sets l at (take i xs)) (at + i) (drop i xs) =
      ap (sets l at) (sym (take-append-drop i xs)) ∙ sets_append l at (take i xs) (drop i xs) ∙ ap (λ (n : ℕ). sets (sets l at (take i xs)) (at + n) (drop i xs)) (length-take-le i xs k) in
      sym (all ∙ sets_behind (sets l at (take i xs)) (at + i) (drop i xs) (rw length-sets h))

pub length_laid : {A : Type 0} (xs out : List A) → length (laid_into xs out) ≡ length out
length_laid xs out = rw (sym (sets_laid xs out)) (length-sets out 0 xs)

-- further elements behind those that are laid
pub laid_further : {A : Type 0} (xs ys out : List A) → sets (laid_into xs out) (length xs) ys ≡ laid_into (xs ++ ys) out
laid_further {A} xs ys out =
    ap (λ (l : List A). sets l (length xs) ys) (sym (sets_laid xs out))
    ∙ ap (λ (n : ℕ). sets (sets out 0 xs) n ys) (sym (zero-add (length xs)))
    ∙ sym (sets_append out 0 xs ys)
    ∙ sets_laid (xs ++ ys) out

-- what was laid is there
pub front_laid : {A : Type 0} (xs out : List A) → length xs ≤ length out → take (length xs) (sets out 0 xs) ≡ xs
front_laid xs out h = rw (sets_laid xs out, laid_whole xs out h) (take_at xs (drop (length xs) out) (length xs) refl)
