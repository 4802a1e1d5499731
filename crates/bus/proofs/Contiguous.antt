-- Laws of parts that lie one behind the other: one test over the whole list gives the rule at each of its entries.
-- Assumes nothing.
use Rattle.std.specs.Prelude.{None, Some, slice_get}
use mathlib.Core.Path.{◌≡◌, sym, ap, ◌∙◌}
use mathlib.Core.Bool.{Bool, ◌&&◌}
use mathlib.Core.List.{List, [], ◌∷◌}
use Prim.Native.Nat.{ℕ, zero, suc, ◌≤◌}
use native.Mathlib.Numerals.{add-one}
use native.Mathlib.Omega.{arith}
use lib.Dec.{T, eqb, eqb→eq}
use Rattle.bus.specs.Contiguous.{Contiguous}
use Rattle.bus.proofs.Tests.{and_left, and_right}
use Rattle.bus.proofs.Lists.{no_element}

-- the test: each part starts where the one before it ends, the first at o, and the last one ends at end
abbrev pub runs : {A : Type 0} → (A → ℕ) → (A → ℕ) → ℕ → ℕ → List A → Bool
runs start behind end o [] = eqb o end
runs start behind end o (x ∷ xs) = eqb (start x) o && runs start behind end (behind x) xs

module _ {A : Type 0} (start behind : A → ℕ) (end : ℕ) where
  pub here : (o : ℕ) (x : A) (xs : List A) → T (runs start behind end o (x ∷ xs)) → start x ≡ o
  here o x xs t = eqb→eq (start x) o (and_left (eqb (start x) o) (runs start behind end (behind x) xs) t)

  pub later : (o : ℕ) (x : A) (xs : List A) → T (runs start behind end o (x ∷ xs)) → T (runs start behind end (behind x) xs)
  later o x xs t = and_right (eqb (start x) o) (runs start behind end (behind x) xs) t

  starts : {x : A} (o : ℕ) (xs : List A) → T (runs start behind end o xs) → slice_get xs zero ≡ Some x → start x ≡ o
  starts o [] t e = no_element e
  starts {x} o (y ∷ ys) t e =
      let same : x ≡ y = cc in
      ap start same ∙ here o y ys t

  follows : {x y : A} (o : ℕ) (xs : List A) → T (runs start behind end o xs) → (i : ℕ) → slice_get xs i ≡ Some x → slice_get xs (suc i) ≡ Some y → start y ≡ behind x
  follows o [] t i e f = no_element e
  follows {x} o (z ∷ zs) t zero e f =
      let same : z ≡ x = cc in
      starts (behind z) zs (later o z zs t) f ∙ ap behind same
  follows o (z ∷ zs) t (suc i) e f = follows (behind z) zs (later o z zs t) i e f

  ends : {x : A} (o : ℕ) (xs : List A) → T (runs start behind end o xs) → (i : ℕ) → slice_get xs i ≡ Some x → slice_get xs (suc i) ≡ None → behind x ≡ end
  ends o [] t i e f = no_element e
  ends {x} o (z ∷ []) t zero e f =
      let same : x ≡ z = cc in
      ap behind same ∙ eqb→eq (behind z) end (later o z [] t)
  ends o (z ∷ y ∷ zs) t zero e f = no_element (sym f)
  ends o (z ∷ zs) t (suc i) e f = ends (behind z) zs (later o z zs t) i e f

  -- no part ends before it starts, so none starts behind the end
  pub reaches : ((x : A) → start x ≤ behind x) → (o : ℕ) (xs : List A) → T (runs start behind end o xs) → o ≤ end
  reaches le o [] t = omega (arith, eqb→eq o end t)
  reaches le o (x ∷ xs) t = omega (arith, here o x xs t, le x, reaches le (behind x) xs (later o x xs t))

  pub contiguous : (o : ℕ) (xs : List A) → T (runs start behind end o xs) → Contiguous start behind o end xs
  contiguous o xs t =
      record {
        first = λ {x} e. starts o xs t e;
        next = λ {x} {y} i e f. follows o xs t i e (rw add-one at f);
        last = λ {x} i e f. ends o xs t i e (rw add-one at f);
      }
