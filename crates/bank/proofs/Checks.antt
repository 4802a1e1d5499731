-- Laws of checks: lists of them in two parts, and what is known where none applies.
-- Assumes nothing.
use Rattle.std.specs.Prelude.{is_none, is_ok, Err, None, Ok, Option, Result, Some}
use mathlib.Core.Path.{◌≡◌, refl, sym, ◌∙◌}
use mathlib.Core.Bool.{Bool, true, false, ◌||◌, true≢false}
use mathlib.Core.List.{List, [], ◌∷◌, ◌++◌}
use Prim.Native.Nat.{ℕ}
use native.Mathlib.Omega.{arith}
use Rattle.bus.proofs.Tests.{by_test}
use Rattle.bus.proofs.Lists.{no_element}
use Rattle.bank.specs.declared.refusal.Refusal.{Refusal}
use Rattle.bank.specs.Refusal.{Check, first_of, unless_refused, checked, tested}

-- a refusal by the first part is the refusal by both
pub refused_first : {r : Refusal} (xs ys : List Check) → first_of xs ≡ Some r → first_of (xs ++ ys) ≡ Some r
unfolding first_of
refused_first [] ys e = no_element e
refused_first (x ∷ xs) ys e =
    by_test x.applies
    (λ t. rw t (rw t at e))
    (λ t. rw t (refused_first xs ys (rw t at e)))

-- where no check of the first part applies, the second part counts
pub passed_first : (xs ys : List Check) → first_of xs ≡ None → first_of (xs ++ ys) ≡ first_of ys
unfolding first_of
passed_first [] ys e = refl
passed_first (x ∷ xs) ys e =
    by_test x.applies
    (λ t. no_element (sym (rw t at e)))
    (λ t. rw t (passed_first xs ys (rw t at e)))

-- where none of both parts applies, none of either does
pub none_first : (xs ys : List Check) → first_of (xs ++ ys) ≡ None → first_of xs ≡ None
unfolding first_of
none_first [] ys e = refl
none_first (x ∷ xs) ys e =
    by_test x.applies
    (λ t. no_element (sym (rw t at e)))
    (λ t. rw t (none_first xs ys (rw t at e)))

pub none_second : (xs ys : List Check) → first_of (xs ++ ys) ≡ None → first_of ys ≡ None
none_second xs ys e = sym (passed_first xs ys (none_first xs ys e)) ∙ e

-- no check applies
abbrev pub Passed : List Check → Type 0
Passed [] = Unit {0}
Passed (x ∷ xs) = (x.applies ≡ false) × Passed xs

pub passed : (xs : List Check) → first_of xs ≡ None → Passed xs
unfolding first_of
passed [] e = tt
passed (x ∷ xs) e =
    by_test x.applies
    (λ t. no_element (sym (rw t at e)))
    (λ t. (t, passed xs (rw t at e)))

-- of two tests neither holds
pub or_left : (a b : Bool) → (a || b) ≡ false → a ≡ false
or_left true b e = e
or_left false b e = refl

pub or_right : (a b : Bool) → (a || b) ≡ false → b ≡ false
or_right true b e = absurd (true≢false e)
or_right false b e = e

-- an answer is no refusal
pub not_both : {A T : Type 0} {x : T} {e : Refusal} → Ok x ≡ Err e → A
not_both h =
    let z : ◌≡◌ {A = ℕ} 0 1 = cc in
    let y : ⊥ = omega arith in
    absurd y

pub ok_exactly : (cs : List Check) → is_ok (tested cs) ≡ is_none (first_of cs)
ok_exactly cs = by (first_of cs)
  where
    by : (o : Option Refusal) → is_ok (unless_refused o Err (Ok (tt {0}))) ≡ is_none o
    by None = refl
    by (Some r) = refl

-- a call that answers passed its checks, and a refusal is theirs
module _ {A : Type 0} (cs : List Check) (answer : A) where
  pub was_answered : {a : A} → checked cs Err (Ok answer) ≡ Ok a → (first_of cs ≡ None) × (a ≡ answer)
  was_answered {a} e = go (first_of cs) refl
    where
      go : (o : Option Refusal) → first_of cs ≡ o → (first_of cs ≡ None) × (a ≡ answer)
      go (Some r) f = not_both (sym (rw f at e))
      go None f =
          let same : ◌≡◌ {A = Result A Refusal} (Ok answer) (Ok a) = rw f at e in
          (f, cc)

  pub was_refused : {r : Refusal} → checked cs Err (Ok answer) ≡ Err r → first_of cs ≡ Some r
  was_refused {r} e = go (first_of cs) refl
    where
      go : (o : Option Refusal) → first_of cs ≡ o → first_of cs ≡ Some r
      go None f = not_both (rw f at e)
      go (Some q) f =
          let same : ◌≡◌ {A = Result A Refusal} (Err q) (Err r) = rw f at e in
          f ∙ cc

-- and one that only tests
pub told_err : (cs : List Check) {r : Refusal} → tested cs ≡ Err r → first_of cs ≡ Some r
told_err cs e = was_refused cs (tt {0}) e

pub told_ok : (cs : List Check) {u : Unit {0}} → tested cs ≡ Ok u → first_of cs ≡ None
told_ok cs e = (was_answered cs (tt {0}) e).0
