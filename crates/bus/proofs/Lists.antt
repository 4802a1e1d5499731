-- Laws of lists: an element and a search of the first n elements, and a list that takes the place of another's head.
-- Assumes nothing.
use Rattle.std.specs.Prelude.{None, Some, find, slice_get}
use mathlib.Core.Path.{◌≡◌, refl, sym, ap, ◌∙◌}
use mathlib.Core.Bool.{Bool, true}
use mathlib.Core.List.{List, [], ◌∷◌, ◌++◌, append-nil}
use Prim.Native.Nat.{ℕ, zero, suc, ◌+◌, ◌≤◌, ◌<◌}
use native.Mathlib.Nat.{le_of_suc-le-suc, not-suc-le-zero, le_of_lt}
use native.Mathlib.Numerals.{add-one}
use native.Mathlib.Omega.{arith}
use mathlib.Core.Logic.{◌⊎◌, ⊎_elim}
use borrow.Author.Tests.{ltb-true, ltb-false}
use lib.Dec.{ltb}
use lib.ListN.{length, get_or, set, take, drop, length-take, length-append, drop_of_length-le}
use lib.Seq.{take_all, take-append-le, take-nil, take-suc, drop-cons, set_at, set_out, sets, append_snoc, length-take-le, get_or-take}
use Rattle.bus.specs.Value.{laid_into}
use Rattle.bus.specs.Maps.{first_with}
use Rattle.bus.proofs.Tests.{by_test}

module _ {A : Type 0} where
  -- where there is none, there is no element
  pub no_element : {B : Type 0} {x : A} → None ≡ Some x → B
  no_element e =
      let z : ◌≡◌ {A = ℕ} 0 1 = cc in
      let y : ⊥ = omega arith in
      absurd y

  pub no_elements : (xs : List A) → length xs ≡ 0 → xs ≡ []
  no_elements [] e = refl
  no_elements (x ∷ xs) e =
      let z : ⊥ = omega arith in
      absurd z

  -- an element of a list, and none behind its last
  pub element_in : (xs : List A) (i : ℕ) (d : A) → i < length xs → Some (get_or xs i d) ≡ slice_get xs i
  element_in [] i d h = absurd (not-suc-le-zero h)
  element_in (x ∷ xs) zero d h = refl
  element_in (x ∷ xs) (suc i) d h = element_in xs i d (le_of_suc-le-suc h)

  -- std's `find` gives the first element that passes
  pub find_first : (p : A → Bool) (xs : List A) → find p xs ≡ first_with p xs
  unfolding first_with
  find_first p [] = refl
  find_first p (x ∷ xs) = rw (find_first p xs)

  -- what is left from element i on, and how long it is
  pub left_at : (xs : List A) (i : ℕ) (d : A) → i < length xs → drop i xs ≡ get_or xs i d ∷ drop (i + 1) xs
  left_at xs i d h = drop-cons xs i d h ∙ rw add-one

  -- the same of its first n
  pub entry_in : (xs : List A) (n i : ℕ) (d : A) → i < n → n ≤ length xs → Some (get_or xs i d) ≡ slice_get (take n xs) i
  entry_in xs zero i d h k = absurd (not-suc-le-zero h)
  entry_in [] (suc n) i d h k = absurd (not-suc-le-zero k)
  entry_in (x ∷ xs) (suc n) zero d h k = refl
  entry_in (x ∷ xs) (suc n) (suc i) d h k = entry_in xs n i d (le_of_suc-le-suc h) (le_of_suc-le-suc k)

  pub entry_out : (xs : List A) (n i : ℕ) → n ≤ i → None ≡ slice_get (take n xs) i
  entry_out xs zero i h = refl
  entry_out [] (suc n) i h = refl
  entry_out (x ∷ xs) (suc n) zero h = absurd (not-suc-le-zero h)
  entry_out (x ∷ xs) (suc n) (suc i) h = entry_out xs n i (le_of_suc-le-suc h)

  -- what is left of the first n elements, from element i on
  pub rest : (xs : List A) (n i : ℕ) (d : A) → n ≤ length xs → i < n → drop i (take n xs) ≡ get_or xs i d ∷ drop (i + 1) (take n xs)
  rest xs n i d k h =
      drop-cons (take n xs) i d (rw (length-take-le n xs k) h)
      ∙ rw (get_or-take n xs i d h, add-one)

  -- the element found passes the test
  pub first_passes : (p : A → Bool) {x : A} (xs : List A) → first_with p xs ≡ Some x → p x ≡ true
  unfolding first_with
  first_passes p [] e = no_element e
  first_passes p {x} (y ∷ ys) e =
      by_test (p y)
      (λ t.
      let f : Some y ≡ Some x = rw t at e in
      let same : y ≡ x = cc in
      ap p (sym same) ∙ t)
      (λ t. first_passes p ys (rw t at e))

  -- the first i elements of s in the place of d's first i
  module _ (s d : List A) (i : ℕ) where
    pub laid_suc : (z : A) → i < length s → i < length d → set (take i s ++ drop i d) i (get_or s i z) ≡ take (i + 1) s ++ drop (i + 1) d
    laid_suc z h k =
        ap (λ (r : List A). set (take i s ++ r) i (get_or s i z)) (drop-cons d i z k)
        ∙ set_at (take i s) (get_or d i z) (drop (suc i) d) (get_or s i z) i (length-take-le i s (le_of_lt h))
        ∙ sym (append_snoc (take i s) (get_or s i z) (drop (suc i) d))
        ∙ rw (← take-suc s i z h, add-one)

    -- all of s is laid, or all of d is taken up
    laid_all : i ≡ length s → i ≤ length d → take i s ++ drop i d ≡ take (length d) s ++ drop (length s) d
    laid_all h k = rw (take_all i s (omega arith), take_all (length d) s (omega arith), h)

    laid_short : i ≡ length d → length d ≤ length s → take i s ++ drop i d ≡ take (length d) s ++ drop (length s) d
    laid_short h k = rw (h, drop_of_length-le d {i = length d} (omega arith), drop_of_length-le d {i = length s} k)

    pub laid_full : length s ≤ i ⊎ length d ≤ i → i ≤ length s → i ≤ length d → take i s ++ drop i d ≡ take (length d) s ++ drop (length s) d
    laid_full full h k = ⊎_elim (λ e. laid_all (omega arith) k) (λ e. laid_short (omega arith) (omega arith)) full

-- a list that is not longer is laid whole
pub laid_whole : {A : Type 0} (xs out : List A) → length xs ≤ length out → laid_into xs out ≡ xs ++ drop (length xs) out
laid_whole xs out h = rw (take_all (length out) xs h)

-- each element that there is room for is laid at its place
pub laid_at : {A : Type 0} (xs out : List A) (i : ℕ) → i < length xs → i < length out → slice_get (laid_into xs out) i ≡ slice_get xs i
laid_at [] out i h k = absurd (not-suc-le-zero h)
laid_at (x ∷ xs) [] i h k = absurd (not-suc-le-zero k)
laid_at (x ∷ xs) (y ∷ out) zero h k = refl
laid_at (x ∷ xs) (y ∷ out) (suc i) h k = laid_at xs out i (le_of_suc-le-suc h) (le_of_suc-le-suc k)

-- and behind them nothing changes
pub laid_behind : {A : Type 0} (xs out : List A) (i : ℕ) → length xs ≤ i → slice_get (laid_into xs out) i ≡ slice_get out i
laid_behind [] out i h = rw take-nil
laid_behind (x ∷ xs) [] i h = refl
laid_behind (x ∷ xs) (y ∷ out) zero h = absurd (not-suc-le-zero h)
laid_behind (x ∷ xs) (y ∷ out) (suc i) h = laid_behind xs out i (le_of_suc-le-suc h)

-- one element more: it is laid where there is room
pub laid_more : {A : Type 0} (xs out : List A) (x : A) → set (laid_into xs out) (length xs) x ≡ laid_into (xs ++ (x ∷ [])) out
laid_more {A} xs out x =
    by_test (ltb (length xs) (length out))
    (λ t.
    let h = ltb-true (length xs) (length out) t in
    ap (λ (r : List A). set r (length xs) x) (laid_whole xs out (omega arith) ∙ ap (λ (r : List A). xs ++ r) (drop-cons out (length xs) x h))
    ∙ set_at xs (get_or out (length xs) x) (drop (suc (length xs)) out) x (length xs) refl
    ∙ sym (append_snoc xs x (drop (suc (length xs)) out))
    ∙ rw (laid_whole (xs ++ (x ∷ [])) out (rw length-append (omega arith)), length-append, add-one))
    (λ t.
    let h = ltb-false (length xs) (length out) t in
    let full : laid_into xs out ≡ take (length out) xs = rw (drop_of_length-le out {i = length xs} h) (append-nil (take (length out) xs)) in
    let long : length out ≤ length (xs ++ (x ∷ [])) = rw length-append (omega arith) in
    ap (λ (r : List A). set r (length xs) x) full
    ∙ set_out (take (length out) xs) (length xs) x (rw length-take (omega arith))
    ∙ sym (rw (drop_of_length-le out {i = length (xs ++ (x ∷ []))} long, take-append-le (length out) xs (x ∷ []) h) (append-nil (take (length out) xs))))

-- elements stored one behind the other: into an empty list, and behind a list's head
module _ {A : Type 0} where
  sets_empty : (i : ℕ) (xs : List A) → sets [] i xs ≡ []
  sets_empty i [] = refl
  sets_empty i (x ∷ xs) = sets_empty (suc i) xs

  pub sets_cons : (y : A) (l : List A) (i : ℕ) (xs : List A) → sets (y ∷ l) (suc i) xs ≡ y ∷ sets l i xs
  sets_cons y l i [] = refl
  sets_cons y l i (x ∷ xs) = sets_cons y (set l i x) (suc i) xs

-- elements stored from the first index on are laid into the list
pub sets_laid : {A : Type 0} (xs out : List A) → sets out 0 xs ≡ laid_into xs out
sets_laid [] out = rw take-nil
sets_laid (x ∷ xs) [] = sets_empty 1 xs
sets_laid {A} (x ∷ xs) (y ∷ out) = sets_cons x out 0 xs ∙ ap (λ (l : List A). x ∷ l) (sets_laid xs out)
