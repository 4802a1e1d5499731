-- Laws of printable texts: the first byte that is not printable, and the first byte of a printable text.
-- Assumes nothing.
use Rattle.std.proofs.lemmas.Option.{same_Some}
use Rattle.std.specs.Prelude.{Bool, ◌&&◌, None, Option, Some, not, option_map, position, slice_get}
use Rattle.std.specs.List.{position_from}
use Rattle.std.proofs.lemmas.Iterator.Adapters.{position_from-zero}
use Rattle.std.proofs.Math.Bool.{and_assoc, and-true}
use mathlib.Core.Path.{◌≡◌, refl, sym, ap, subst, ◌∙◌}
use mathlib.Core.Bool.{true, false}
use mathlib.Core.List.{List, [], ◌∷◌}
use Prim.Native.Nat.{ℕ, zero, suc, ◌+◌, ◌≤◌, ◌<◌}
use native.Mathlib.Nat.{le_of_suc-le-suc, not-suc-le-zero}
use native.Mathlib.Omega.{arith}
use borrow.Author.Tests.{le-leb, leb-true, leb-false}
use lib.Dec.{leb}
use lib.ListN.{length}
use Rattle.bus.proofs.Tests.{first_true, second_true, by_test}
use Rattle.bus.proofs.Lists.{no_element}
use Rattle.bank.specs.Fields.{is_printable, printable, first_not_printable}
use Rattle.bank.specs.Writable.{FirstOutside}

-- a byte is inside 20 to 7E hex exactly where it is printable
inside : (b : ℕ) → is_printable b ≡ true → (0x20 ≤ b) × (b ≤ 0x7E)
inside b e = (leb-true 0x20 b (first_true (leb 0x20 b) (leb b 0x7E) e), leb-true b 0x7E (second_true (leb 0x20 b) (leb b 0x7E) e))

outside : (b : ℕ) → is_printable b ≡ false → 0x20 ≤ b → 0x7E < b
outside b e h = leb-false b 0x7E (rw (le-leb 0x20 b h) at e)

-- an index one higher: there is none where there was none, and the one that is there is one lower
none_behind : (o : Option ℕ) → option_map suc o ≡ None → o ≡ None
none_behind None e = refl
none_behind (Some i) e = no_element (sym e)

some_behind : {i : ℕ} (o : Option ℕ) → option_map suc o ≡ Some i → (j : ℕ) × (o ≡ Some j) × (suc j ≡ i)
some_behind None e = no_element e
some_behind (Some j) e = (j, refl, same_Some _ _ e)

-- behind a printable byte, none is found where the rest has none
rest_has_none : (b : ℕ) (bs : List ℕ) → first_not_printable (b ∷ bs) ≡ None → (is_printable b ≡ true) × (first_not_printable bs ≡ None)
unfolding first_not_printable
rest_has_none b bs e =
    by_test (is_printable b)
    (λ t. (t, none_behind (first_not_printable bs) (rw t at e)))
    (λ t. no_element (sym (rw t at e)))

-- a search along the text gives that byte
pub searched : (bytes : List ℕ) → position (λ b. not (is_printable b)) bytes ≡ first_not_printable bytes
unfolding first_not_printable
searched bytes = position_from-zero (λ b. not (is_printable b)) bytes ∙ from 0 bytes ∙ as_is (first_not_printable bytes)
  where
    later : (i : ℕ) (o : Option ℕ) → option_map (λ k. i + 1 + k) o ≡ option_map (λ k. i + k) (option_map suc o)
    later i None = refl
    later i (Some k) = ap Some (omega arith)

    as_is : (o : Option ℕ) → option_map (λ k. 0 + k) o ≡ o
    as_is None = refl
    as_is (Some k) = ap Some (omega arith)

    from : (i : ℕ) (bs : List ℕ) → position_from (λ b. not (is_printable b)) i bs ≡ option_map (λ k. i + k) (first_not_printable bs)
    from i [] = refl
    from i (b ∷ bs) =
        by_test (is_printable b)
        (λ t. rw t (from (i + 1) bs ∙ later i (first_not_printable bs)))
        (λ t. rw t (ap Some (omega arith)))

-- a text of printable bytes begins with one
pub head_printable : (b : ℕ) (bs : List ℕ) → printable (b ∷ bs) ≡ true → (0x20 ≤ b) × (b ≤ 0x7E) × (printable bs ≡ true)
unfolding printable
head_printable b bs e =
    let p = inside b (first_true (is_printable b) (printable bs) e) in
    (p.0, p.1, second_true (is_printable b) (printable bs) e)

-- a text is printable exactly where no byte is found that is not
pub printable_none : (bytes : List ℕ) → first_not_printable bytes ≡ None → printable bytes ≡ true
unfolding first_not_printable printable
printable_none [] e = refl
printable_none (b ∷ bs) e =
    let r = rest_has_none b bs e in
    rw r.0 (printable_none bs r.1)

pub none_printable : (bytes : List ℕ) → printable bytes ≡ true → first_not_printable bytes ≡ None
unfolding first_not_printable printable
none_printable [] e = refl
none_printable (b ∷ bs) e = rw (first_true (is_printable b) (printable bs) e) (ap (option_map suc) (none_printable bs (second_true (is_printable b) (printable bs) e)))

-- a test of every byte, one byte on and at the end: what was told so far, with what is left
pub told_more : {text rest : List ℕ} {b : ℕ} (told : Bool) → text ≡ b ∷ rest → ((told && is_printable b) && printable rest) ≡ (told && printable text)
unfolding printable
told_more {text} {rest} {b} told e = rw e (and_assoc told (is_printable b) (printable rest))

pub told_all : {text : List ℕ} (told : Bool) → text ≡ [] → (told && printable text) ≡ told
unfolding printable
told_all told e = rw e (and-true told)

-- what a scan finds is the first byte outside
first_later : {b i : ℕ} {bs : List ℕ} → is_printable b ≡ true → FirstOutside bs i → FirstOutside (b ∷ bs) (suc i)
first_later {b} {i} {bs} t f =
    record {
      byte = f.byte;
      at_index = f.at_index;
      outside = f.outside;
      inside_before = before;
    }
  where
    before : (j c : ℕ) → j < suc i → slice_get (b ∷ bs) j ≡ Some c → (0x20 ≤ c) × (c ≤ 0x7E)
    before zero c h e = subst (λ (x : ℕ). (0x20 ≤ x) × (x ≤ 0x7E)) (same_Some _ _ e) (inside b t)
    before (suc j) c h e = f.inside_before j c (le_of_suc-le-suc h) e

pub found_first : (bytes : List ℕ) {i : ℕ} → first_not_printable bytes ≡ Some i → FirstOutside bytes i
unfolding first_not_printable
found_first [] e = no_element e
found_first (b ∷ bs) {i} e =
    by_test (is_printable b)
    (λ t.
    let r = some_behind (first_not_printable bs) (rw t at e) in
    subst (FirstOutside (b ∷ bs)) r.2 (first_later t (found_first bs r.1)))
    (λ t.
    subst (FirstOutside (b ∷ bs)) (same_Some _ _ (rw t at e))
    (record { byte = b; at_index = refl; outside = outside b t; inside_before = λ j c h. absurd (not-suc-le-zero h) }))

pub found_below : (bytes : List ℕ) {i : ℕ} → first_not_printable bytes ≡ Some i → i < length bytes
unfolding first_not_printable
found_below [] e = no_element e
found_below (b ∷ bs) {i} e =
    by_test (is_printable b)
    (λ t.
    let r = some_behind (first_not_printable bs) (rw t at e) in
    let below = found_below bs r.1 in
    let is : suc r.0 ≡ i = r.2 in
    omega arith)
    (λ t.
    let is : 0 ≡ i = same_Some _ _ (rw t at e) in
    omega arith)

pub first_found : (bytes : List ℕ) (i : ℕ) → FirstOutside bytes i → first_not_printable bytes ≡ Some i
unfolding first_not_printable
first_found [] i f = no_element f.at_index
first_found (b ∷ bs) zero f =
    by_test (is_printable b)
    (λ t.
    let low = inside b t in
    let is : b ≡ f.byte = same_Some _ _ f.at_index in
    let high = f.outside (omega (arith, low.0)) in
    let z : ⊥ = omega (arith, low.1) in
    absurd z)
    (λ t. rw t)
first_found (b ∷ bs) (suc i) f =
    let first = f.inside_before 0 b (omega arith) refl in
    let later : FirstOutside bs i = record { byte = f.byte; at_index = f.at_index; outside = f.outside; inside_before = λ j c h e. f.inside_before (suc j) c (omega arith) e } in
    rw (le-leb 0x20 b first.0, le-leb b 0x7E first.1) (ap (option_map suc) (first_found bs i later))
