-- Laws of what is printed, and of lines put one behind the other.
-- Assumes nothing.
use mathlib.Core.Logic.{◌⊎◌, inl, inr}
use mathlib.Core.Path.{◌≡◌, refl, ap, ◌∙◌}
use mathlib.Core.List.{List, [], ◌∷◌, ◌++◌}
use Prim.Native.Nat.{ℕ, ◌+◌, ◌≤◌}
use native.Mathlib.Omega.{arith}
use lib.Dec.{ltb, lit≤}
use lib.ListN.{length, take, length-append}
use Rattle.std.proofs.Common.{take_all}
use Rattle.bus.proofs.Tests.{by_test}
use Rattle.records.specs.Writes.{Store, flat, offsets_of, values_of}
use Rattle.stores.specs.Listing.{decimal, counted, line}
use Rattle.stores.specs.Steps.{lines}

pub decimal_short : (n : ℕ) → length (decimal n) ≤ 3
decimal_short n =
    by_test (ltb n 10)
    (λ t. rw t (lit≤ tt))
    (λ t.
    by_test (ltb n 100)
    (λ s. rw (t, s) (lit≤ tt))
    (λ s. rw (t, s) (lit≤ tt)))

pub counted_length : (word : List ℕ) (n : ℕ) → length (counted word n) ≡ length word + (length (decimal n) + 1)
counted_length word n = length-append word (decimal n ++ (0x0A ∷ [])) ∙ ap (λ (k : ℕ). length word + k) (length-append (decimal n) (0x0A ∷ []))

-- what is put behind a text that has room for it
pub joined : (text more : List ℕ) {after : List ℕ} → after ≡ take 492 (text ++ more) → length text + length more ≤ 492 → after ≡ text ++ more
joined text more e h = e ∙ take_all 492 (text ++ more) (rw length-append h)

-- and into a text that is empty
pub begun : (more : List ℕ) {empty after : List ℕ} → empty ≡ [] → after ≡ take 492 (empty ++ more) → length more ≤ 492 → after ≡ more
begun more e f h = f ∙ ap (λ (l : List ℕ). take 492 (l ++ more)) e ∙ take_all 492 more h

pub no_lines : (os vs : List ℕ) → (length os ≡ 0) ⊎ (length vs ≡ 0) → lines os vs ≡ []
no_lines [] vs e = refl
no_lines (o ∷ os) [] e = refl
no_lines (o ∷ os) (v ∷ vs) (inl e) = let z : ⊥ = omega (arith, e) in absurd z
no_lines (o ∷ os) (v ∷ vs) (inr e) = let z : ⊥ = omega (arith, e) in absurd z

-- the lines of a list of stores
pub lines_of : (ss : List Store) → lines (offsets_of ss) (values_of ss) ≡ flat (λ (s : Store). line s.offset s.value) ss
lines_of [] = refl
lines_of (s ∷ ss) = ap (λ (r : List ℕ). line s.offset s.value ++ r) (lines_of ss)
