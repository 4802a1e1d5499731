-- Laws of the rows of the table where something is wanted, told by the bits of a number.
-- Assumes nothing.
use Rattle.std.proofs.lemmas.Option.{same_Some, slice_get_within}
use Rattle.std.proofs.lemmas.Nat.{and_mask, or_lt, pow_below, shr-shr}
use Rattle.std.specs.Int.Bits.{or_shifted_r}
use Rattle.std.proofs.lemmas.Nat.Bits.{bit_at-zero, bit_at_lowest, bit_at_or, bit_at-pow_same, bit_at-pow_other, and_pow, bit_at-lt, bit_at_above, bit_at_cat_low, bit_at_cat_high, bit_at-trailing_zeros}
use Rattle.std.proofs.Common.{w32, bit_and, bit_or, div-le_self}
use Rattle.std.specs.Prelude.{is_some, None, Option, Some, slice_get}
use mathlib.Core.Path.{◌≡◌, refl, sym, ap, ◌∙◌}
use mathlib.Core.Bool.{Bool, true, false, cond, ◌&&◌, ◌||◌, true≢false}
use mathlib.Core.List.{List, [], ◌∷◌}
use Prim.Native.Nat.{ℕ, zero, suc, ◌+◌, ◌-◌, ◌*◌, ◌/◌, ◌%◌, ◌^◌, ◌≤◌, ◌<◌}
use native.Mathlib.Nat.{add-zero}
use native.Mathlib.Omega.{arith}
use borrow.Author.Tests.{eq-eqb, ne_eqb, eqb-true, eqb-false, leb-true, leb-false}
use lib.Count.{count_trailing_zeros}
use lib.Dec.{eqb, leb}
use lib.ListN.{length}
use Rattle.bus.proofs.Tests.{by_test, first_true, second_true}
use Rattle.bus.proofs.Lists.{no_element}
use Rattle.bank.specs.declared.luminaire_write.FieldKind.{FieldKind}
use Rattle.bank.specs.declared.luminaire_write.FieldKind.TheVariants.{LayoutId, Number, Text}
use Rattle.bank.specs.declared.luminaire_write.LuminaireField.{LuminaireField}
use Rattle.bank.specs.Fields.{luminaire_fields}
use Rattle.records.specs.declared.luminaire_write.LuminaireNumbers.{LuminaireNumbers}
use Rattle.records.specs.Writes.{bit_place, is_set, wanted_number}
use Rattle.records.specs.Steps.{WantedAt, NoneWanted}
use Rattle.records.proofs.Table.{table_length}
use Rattle.records.proofs.Numbers.{number_unset, number_set}

-- ---- which bit of a mask a row's number has

abbrev bit_of : FieldKind → Option ℕ
bit_of LayoutId = None
bit_of (Number patch r) = Some (bit_place patch)
bit_of (Text t) = None

abbrev bit_at_row : ℕ → Option ℕ
bit_at_row zero = None
bit_at_row (suc j) = cond (eqb j 15) (Some 10) (cond (leb 10 j) None (Some j))

abbrev same_bit : Option ℕ → Option ℕ → Bool
same_bit None None = true
same_bit None (Some b) = false
same_bit (Some a) None = false
same_bit (Some a) (Some b) = eqb a b

same_is : (a b : Option ℕ) → same_bit a b ≡ true → a ≡ b
same_is None None t = refl
same_is None (Some b) t = absurd (true≢false (sym t))
same_is (Some a) None t = absurd (true≢false (sym t))
same_is (Some a) (Some b) t = ap Some (eqb-true a b t)

-- the rule of the table, computed once over the whole
abbrev all_same : ℕ → List LuminaireField → Bool
all_same k [] = true
all_same k (f ∷ fs) = same_bit (bit_of f.kind) (bit_at_row k) && all_same (suc k) fs

entry_same : (k : ℕ) (fs : List LuminaireField) (i : ℕ) {f : LuminaireField} → all_same k fs ≡ true → slice_get fs i ≡ Some f → bit_of f.kind ≡ bit_at_row (k + i)
entry_same k [] i t e = no_element e
entry_same k (g ∷ fs) zero t e =
    rw (← same_Some _ _ e, add-zero) (same_is (bit_of g.kind) (bit_at_row k) (first_true (same_bit (bit_of g.kind) (bit_at_row k)) (all_same (suc k) fs) t))
entry_same k (g ∷ fs) (suc i) t e =
    let moved : k + suc i ≡ suc k + i = omega arith in
    rw moved (entry_same (suc k) fs i (second_true (same_bit (bit_of g.kind) (bit_at_row k)) (all_same (suc k) fs) t) e)

bit_of_row : (i : ℕ) {f : LuminaireField} → slice_get luminaire_fields i ≡ Some f → bit_of f.kind ≡ bit_at_row i
unfolding luminaire_fields count_trailing_zeros
bit_of_row i e =
    let at : 0 + i ≡ i = omega arith in
    entry_same 0 luminaire_fields i refl e ∙ ap bit_at_row at

-- ---- the bits of the places

abbrev bit : ℕ → ℕ → ℕ
bit n i = n / 2 ^ i % 2

-- the mask's bits as they are moved to the places
abbrev pub moved : ℕ → ℕ
moved m = bit_or (bit_and m 1023 * 2 % 4294967296) (bit_and m 1024 * 64 % 4294967296)

moved_is : (m : ℕ) → moved m ≡ bit m 10 * 2 ^ 16 + m % 2 ^ 10 * 2
moved_is m =
    let first : bit_and m 1023 ≡ m % 1024 = and_mask m 10 in
    let last : bit_and m 1024 ≡ bit m 10 * 1024 = and_pow m 10 in
    let low : bit_and m 1023 * 2 % 4294967296 ≡ m % 1024 * 2 = omega (arith, first) in
    let high : bit_and m 1024 * 64 % 4294967296 ≡ bit m 10 * 65536 = omega (arith, last, bit_at-lt m 10) in
    rw (low, high) (or_shifted_r (bit m 10) 16 (m % 1024 * 2) (omega arith))

pub moved_few : (m : ℕ) → moved m < 2 ^ 18
moved_few m = rw (moved_is m) (omega (arith, bit_at-lt m 10))

pub both_few : (m t : ℕ) → t < 18 → bit_or (moved m) (2 ^ t) < 2 ^ 18
both_few m t h = or_lt 18 (moved m) (2 ^ t) (moved_few m) (pow_below t 18 h)

-- the bit of a mask, if it is one
abbrev bit_if : ℕ → Option ℕ → ℕ
bit_if m None = 0
bit_if m (Some b) = bit m b

-- the lowest ten stand one place up
low_at : (m j : ℕ) → bit (m % 2 ^ 10 * 2) (suc j) ≡ cond (leb 10 j) 0 (bit m j)
low_at m j =
    let up : bit (m % 2 ^ 10 * 2) (suc j) ≡ bit (m % 2 ^ 10) j =
    let plus : m % 2 ^ 10 * 2 ≡ m % 2 ^ 10 * 2 ^ 1 + 0 = omega arith in
    let back : suc j - 1 ≡ j = omega arith in
    ap (λ (n : ℕ). bit n (suc j)) plus ∙ bit_at_cat_high (m % 2 ^ 10) 1 0 (suc j) (omega arith) (omega arith) ∙ ap (bit (m % 2 ^ 10)) back in
    by_test (leb 10 j)
    (λ t. rw t (up ∙ bit_at_above (m % 2 ^ 10) 10 j (omega arith) (leb-true 10 j t)))
    (λ t.
    let whole : m / 2 ^ 10 * 2 ^ 10 + m % 2 ^ 10 ≡ m = omega arith in
    rw t (up ∙ sym (bit_at_cat_low (m / 2 ^ 10) 10 (m % 2 ^ 10) j (omega (arith, leb-false 10 j t))) ∙ ap (λ (n : ℕ). bit n j) whole))

moved_at : (m i : ℕ) → bit (moved m) i ≡ bit_if m (bit_at_row i)
moved_at m zero =
    let even : (bit m 10 * 2 ^ 16 + m % 2 ^ 10 * 2) / 1 % 2 ≡ 0 = omega arith in
    rw (moved_is m) even
moved_at m (suc j) =
    let low = m % 2 ^ 10 * 2 in
    let at = ap (λ (n : ℕ). bit n (suc j)) (moved_is m) in
    by_test (eqb j 15)
    (λ t.
    let is : suc j - 16 ≡ 0 = omega (arith, eqb-true j 15 t) in
    let alone : bit (bit m 10) 0 ≡ bit m 10 = omega (arith, bit_at_lowest (bit m 10), bit_at-lt m 10) in
    rw t (at ∙ bit_at_cat_high (bit m 10) 16 low (suc j) (omega arith) (omega (arith, eqb-true j 15 t)) ∙ ap (bit (bit m 10)) is ∙ alone))
    (λ t.
    by_test (leb 10 j)
    (λ u.
    rw (t, u)
    (by_test (leb j 14)
    (λ v. at ∙ bit_at_cat_low (bit m 10) 16 low (suc j) (omega (arith, leb-true j 14 v)) ∙ low_at m j ∙ rw u refl)
    (λ v.
    let behind : 16 < suc j = omega (arith, leb-false j 14 v, eqb-false j 15 t) in
    at ∙ bit_at_cat_high (bit m 10) 16 low (suc j) (omega arith) (omega arith) ∙ bit_at_above (bit m 10) 1 (suc j - 16) (omega (arith, bit_at-lt m 10)) (omega arith))))
    (λ u. rw (t, u) (at ∙ bit_at_cat_low (bit m 10) 16 low (suc j) (omega (arith, leb-false 10 j u)) ∙ low_at m j ∙ rw u refl)))

-- ---- where something is wanted

-- one of the eleven bits, if any
abbrev BitFew : Option ℕ → Type 0
BitFew None = Unit {0}
BitFew (Some b) = b < 11

bit_few : (i : ℕ) → BitFew (bit_at_row i)
bit_few zero = tt
bit_few (suc j) =
    by_test (eqb j 15)
    (λ t. rw t (omega arith))
    (λ t.
    by_test (leb 10 j)
    (λ u. rw (t, u) tt)
    (λ u. rw (t, u) (omega (arith, leb-false 10 j u))))

number_wanted : (n : LuminaireNumbers) (kind : FieldKind) (o : Option ℕ) → bit_of kind ≡ o → BitFew o → is_some (wanted_number n kind) ≡ eqb (bit_if n.patch_mask o) 1
number_wanted n LayoutId o e few = rw (← e) refl
number_wanted n (Text t) o e few = rw (← e) refl
number_wanted n (Number patch r) None e few = no_element (sym e)
number_wanted n (Number patch r) (Some b) e few =
    let same = same_Some _ _ e in
    by_test (is_set n.patch_mask (bit_place patch))
    (λ t. ap is_some (sym (number_set n patch t (omega (arith, same, few)))) ∙ sym t ∙ ap (λ (k : ℕ). is_set n.patch_mask k) same)
    (λ t. ap is_some (sym (number_unset n patch t)) ∙ sym t ∙ ap (λ (k : ℕ). is_set n.patch_mask k) same)

-- the text's place beside those of the numbers
or_set : (a b i : ℕ) → is_set (bit_or a b) i ≡ (is_set a i || is_set b i)
or_set a b i =
    let both = bit_at_or a b i in
    by_test (is_set a i)
    (λ t. rw t (eq-eqb (bit (bit_or a b) i) 1 (omega (arith, both, eqb-true (bit a i) 1 t, bit_at-lt b i))))
    (λ t.
    let zero_a : bit a i ≡ 0 = omega (arith, eqb-false (bit a i) 1 t, bit_at-lt a i) in
    rw t (ap (λ (n : ℕ). eqb n 1) (both ∙ omega (arith, zero_a))))

pow_set : (t i : ℕ) → is_set (2 ^ t) i ≡ eqb t i
pow_set t i =
    by_test (eqb t i)
    (λ e. rw e (eq-eqb (bit (2 ^ t) i) 1 (ap (bit (2 ^ t)) (sym (eqb-true t i e)) ∙ bit_at-pow_same t)))
    (λ e. rw e (ap (λ (n : ℕ). eqb n 1) (bit_at-pow_other t i (λ z. eqb-false t i e (sym z)))))

moved_wanted : (n : LuminaireNumbers) (i : ℕ) {f : LuminaireField} → slice_get luminaire_fields i ≡ Some f → is_set (moved n.patch_mask) i ≡ is_some (wanted_number n f.kind)
moved_wanted n i {f} e = ap (λ (b : ℕ). eqb b 1) (moved_at n.patch_mask i) ∙ sym (number_wanted n f.kind (bit_at_row i) (bit_of_row i e) (bit_few i))

or_none : (b : Bool) → b ≡ (b || false)
or_none true = refl
or_none false = refl

module _ (n : LuminaireNumbers) where
  pub with_text : (t : ℕ) → WantedAt n (Some t) (bit_or (moved n.patch_mask) (2 ^ t))
  with_text t i f e = or_set (moved n.patch_mask) (2 ^ t) i ∙ rw (moved_wanted n i e, pow_set t i) refl

  -- an index that is over the last is that of no row
  pub without_text : (which : Option ℕ) → ((t : ℕ) → which ≡ Some t → 18 ≤ t) → WantedAt n which (moved n.patch_mask)
  without_text None over i f e = moved_wanted n i e ∙ or_none (is_some (wanted_number n f.kind))
  without_text (Some t) over i f e =
      let within = slice_get_within luminaire_fields i f e in
      rw (ne_eqb t i (omega (arith, over t refl, within, table_length))) (moved_wanted n i e ∙ or_none (is_some (wanted_number n f.kind)))

-- ---- from a place on

module _ (places from : ℕ) where
  abbrev rest : ℕ
  rest = places / 2 ^ from

  rest_at : (i : ℕ) → from ≤ i → bit rest (i - from) ≡ bit places i
  rest_at i h =
      let at : from + (i - from) ≡ i = omega arith in
      ap (λ (n : ℕ). n % 2) (shr-shr places from (i - from)) ∙ ap (bit places) at

  unset : (i : ℕ) → from ≤ i → bit rest (i - from) ≡ 0 → is_set places i ≡ false
  unset i h e = ap (λ (n : ℕ). eqb n 1) (sym (rest_at i h) ∙ e)

  pub none_left : rest ≡ 0 → (to : ℕ) → NoneWanted places from to
  none_left e to i h k = unset i h (ap (λ (n : ℕ). bit n (i - from)) e ∙ bit_at-zero (i - from))

  module _ (few : places < 2 ^ 18) (some : rest ≡ 0 → ⊥) where
    abbrev next : ℕ
    next = from + count_trailing_zeros 32 rest

    lowest : (count_trailing_zeros 32 rest < 32) × (bit rest (count_trailing_zeros 32 rest) ≡ 1) × ((i : ℕ) → i < count_trailing_zeros 32 rest → bit rest i ≡ 0)
    lowest = bit_at-trailing_zeros w32 rest (omega (arith, some)) (omega (arith, div-le_self places (2 ^ from)))

    next_is : bit places next ≡ 1
    next_is =
        let back : next - from ≡ count_trailing_zeros 32 rest = omega arith in
        sym (rest_at next (omega arith)) ∙ ap (bit rest) back ∙ lowest.1

    pub next_set : is_set places next ≡ true
    next_set = eq-eqb (bit places next) 1 next_is

    pub next_within : next < 18
    next_within =
        by_test (leb 18 next)
        (λ t. let z : ⊥ = omega (arith, sym next_is ∙ bit_at_above places 18 next few (leb-true 18 next t)) in absurd z)
        (λ t. leb-false 18 next t)

    pub next_in : {t : List LuminaireField} → t ≡ luminaire_fields → next < length t
    next_in e = rw e (omega (arith, next_within, table_length))

    pub none_before : NoneWanted places from next
    none_before i h k = unset i h (lowest.2 (i - from) (omega arith))
