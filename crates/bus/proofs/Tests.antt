-- Laws of tests: a test of two parts, and a proof by the outcome of a test.
-- Assumes nothing.
use mathlib.Core.Path.{◌≡◌, refl, sym, subst}
use mathlib.Core.Bool.{Bool, true, false, ◌&&◌, true≢false}
use lib.Dec.{T}

pub and_left : (a b : Bool) → T (a && b) → T a
and_left true b t = tt
and_left false b t = t

pub and_right : (a b : Bool) → T (a && b) → T b
and_right true b t = t
and_right false b t = absurd t

pub first_true : (a b : Bool) → (a && b) ≡ true → a ≡ true
first_true true b e = refl
first_true false b e = e

pub second_true : (a b : Bool) → (a && b) ≡ true → b ≡ true
second_true true b e = e
second_true false b e = absurd (true≢false (sym e))

pub no_yes : false ≡ true → ⊥
no_yes e = subst T (sym e) tt

pub by_test : {P : Type 0} (b : Bool) → (b ≡ true → P) → (b ≡ false → P) → P
by_test true f g = f refl
by_test false f g = g refl
