-- Laws of what a file says: each part by its bytes, and what a good file is known to have.
-- Assumes nothing.
use Rattle.std.specs.Prelude.{None, Some}
use Rattle.std.specs.Bool.{then_some}
use mathlib.Core.Path.{◌≡◌, refl, sym, ◌∙◌}
use mathlib.Core.Bool.{Bool, true, false, not, cond, ◌&&◌, ◌||◌, true≢false}
use mathlib.Core.List.{List}
use Prim.Native.Nat.{ℕ, ◌+◌, ◌-◌, ◌≤◌, ◌<◌}
use native.Mathlib.Omega.{arith}
use borrow.Author.Tests.{ltb-true, ltb-false, ne_eqb}
use lib.Dec.{eqb, ltb}
use lib.ListN.{length, take, drop, length-drop}
use lib.Seq.{take_all}
use Rattle.bus.specs.Number.{number}
use Rattle.bus.proofs.Lists.{no_element}
use Rattle.bus.proofs.Tests.{by_test}
use Rattle.bank.specs.Fields.{luminaire_fields}
use Rattle.records.specs.declared.luminaire_write.Plan.{Plan}
use Rattle.stores.specs.File.{is_marked, is_good, text_field_of, text_in, parsed}

-- a third test that fails
no_third : (a b : Bool) → (a && (b && false)) ≡ false
no_third true true = refl
no_third true false = refl
no_third false b = refl

-- a value unless a test holds
pub unless : (t : Bool) (n : ℕ) → then_some (not t) n ≡ cond t None (Some n)
unless true n = refl
unless false n = refl

module _ (file : List ℕ) where
  -- the tests of a good file, whatever stands for its mark, version, text length and text index
  pub good_is : {m : Bool} {v n i : ℕ} → m ≡ is_marked file → v ≡ number (take 2 (drop 3 file)) → n ≡ number (take 1 (drop 30 file)) → i ≡ number (take 1 (drop 29 file)) → is_good file ≡ (m && (eqb v 1 && (eqb (length file) (31 + n) && (not (eqb i 0xFF) || eqb n 0))))
  unfolding is_good luminaire_fields
  good_is a b c d = rw (a, b, c, d)

  pub short_bad : length file < 31 → is_good file ≡ false
  short_bad h =
      let n = number (take 1 (drop 30 file)) in
      good_is refl refl refl refl
      ∙ rw (ne_eqb (length file) (31 + n) (λ e. omega (arith, e, h))) (no_third (is_marked file) (eqb (number (take 2 (drop 3 file))) 1))

  pub good_long : is_good file ≡ true → 31 ≤ length file
  good_long g =
      by_test (ltb (length file) 31)
      (λ t. absurd (true≢false (sym g ∙ short_bad (ltb-true (length file) 31 t))))
      (λ t. ltb-false (length file) 31 t)

  pub field_is : {i : ℕ} → i ≡ number (take 1 (drop 29 file)) → text_field_of file ≡ cond (eqb i 0xFF) None (Some i)
  unfolding text_field_of luminaire_fields
  field_is e = rw e

  -- the text, as the part of the file that is lent
  pub text_is : text_in file ≡ take (length file - 31) (drop 31 file)
  unfolding text_in luminaire_fields
  text_is = sym (take_all (length file - 31) (drop 31 file) (rw length-drop (omega arith)))

  -- only a good file has a plan
  pub plan_good : {p : Plan} → parsed file ≡ Some p → is_good file ≡ true
  plan_good e =
      by_test (is_good file)
      (λ t. t)
      (λ t. no_element (rw t at e))
