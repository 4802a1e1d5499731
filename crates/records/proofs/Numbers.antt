-- Laws of the wanted numbers.
-- Assumes nothing.
use Rattle.std.proofs.lemmas.Option.{same_Some}
use Rattle.std.specs.Prelude.{None, Option, Some}
use mathlib.Core.Path.{◌≡◌, refl, sym, ap, ◌∙◌}
use mathlib.Core.Bool.{true, false, cond}
use mathlib.Core.List.{List, [], ◌∷◌}
use Prim.Native.Nat.{ℕ, zero, suc, ◌+◌, ◌/◌, ◌%◌, ◌^◌, ◌≤◌, ◌<◌}
use native.Mathlib.Nat.{zero-add, pow-suc, div-one, div-div-eq-div-mul}
use native.Mathlib.Numerals.{add-one}
use native.Mathlib.Omega.{arith}
use borrow.Author.Tests.{ltb-true, ltb-false, eqb-true, eqb-false}
use lib.Count.{ones, ones_in, count_trailing_zeros, ones_step}
use lib.Dec.{ltb, lit≤}
use lib.ListN.{length, get_or, length-append}
use lib.Pow.{shr_lt}
use Rattle.bus.specs.Number.{number, low_bytes}
use Rattle.bus.proofs.Number.{length_low_bytes, number_low_bytes}
use Rattle.bus.proofs.Lists.{entry_in, entry_out}
use Rattle.bus.proofs.Tests.{by_test}
use Rattle.bank.specs.declared.luminaire_write.FieldKind.{FieldKind}
use Rattle.bank.specs.declared.luminaire_write.FieldKind.TheVariants.{LayoutId, Number, Text}
use Rattle.bank.specs.declared.luminaire_write.LuminaireField.{LuminaireField}
use Rattle.bank.specs.Fields.{luminaire_fields}
use Rattle.records.specs.declared.luminaire_write.LuminaireNumbers.{LuminaireNumbers}
use Rattle.records.specs.Writes.{Write, number_values, bit_place, is_set, number_for, is_for, gather, writes_at, planned_writes, if_number, number_writes, EveryNumberHasItsBit, EveryNumberKept, EveryWantedNumberPlanned}
use Rattle.records.proofs.Gathering.{flat_gather}

module _ (n : LuminaireNumbers) (patch : ℕ) where
  pub number_over : 11 ≤ bit_place patch → None ≡ number_for n patch
  unfolding number_for
  number_over h =
      by_test (is_set n.patch_mask (bit_place patch))
      (λ t. rw t (entry_out (number_values n) 11 (bit_place patch) h))
      (λ t. rw t)

  pub number_unset : is_set n.patch_mask (bit_place patch) ≡ false → None ≡ number_for n patch
  unfolding number_for
  number_unset t = rw t

  pub number_set : is_set n.patch_mask (bit_place patch) ≡ true → bit_place patch < 11 → Some (get_or (number_values n) (bit_place patch) 0) ≡ number_for n patch
  unfolding number_for
  number_set t h = rw t (entry_in (number_values n) 11 (bit_place patch) 0 h (lit≤ tt))

pub every_number_kept : EveryNumberKept
every_number_kept n f value bytes w e =
    let same : Some (low_bytes f.len value) ≡ Some bytes = rw w at e in
    let low : bytes ≡ low_bytes f.len value = sym (same_Some _ _ same) in
    (ap length low ∙ length_low_bytes f.len value, ap number low ∙ number_low_bytes f.len value)

-- ---- how many numbers are planned

pub every_number_has_its_bit : EveryNumberHasItsBit
unfolding luminaire_fields count_trailing_zeros
every_number_has_its_bit = refl

abbrev total : (LuminaireField → ℕ) → List LuminaireField → ℕ
total h [] = 0
total h (f ∷ fs) = h f + total h fs

-- the digits of a number from one on, so many of them
abbrev digits : ℕ → ℕ → ℕ → ℕ
digits zero b m = 0
digits (suc k) b m = m / 2 ^ b % 2 + digits k (suc b) m

digits_are : (k b m : ℕ) → digits k b m ≡ ones_in k (m / 2 ^ b)
unfolding ones_in
digits_are zero b m = refl
digits_are (suc k) b m =
    let half : m / 2 ^ suc b ≡ m / 2 ^ b / 2 = rw (pow-suc 2 b) (sym (div-div-eq-div-mul m (2 ^ b) 2)) in
    ap (λ (r : ℕ). m / 2 ^ b % 2 + r) (digits_are k (suc b) m ∙ ap (ones_in k) half)

ones_zero : ones 0 ≡ 0
unfolding ones ones_in
ones_zero = refl

ones_within : (k m : ℕ) → m < 2 ^ k → ones m ≡ ones_in k m
unfolding ones_in
ones_within zero m h =
    let z : m ≡ 0 = omega arith in
    rw z ones_zero
ones_within (suc k) m h = ones_step m ∙ ap (λ (r : ℕ). m % 2 + r) (ones_within k (m / 2) (shr_lt k 1 (rw (add-one k) h)))

-- how many writes of numbers a field has: none, or one where its bit is set
abbrev counts : LuminaireNumbers → FieldKind → ℕ
counts n LayoutId = 0
counts n (Number patch r) = cond (ltb (bit_place patch) 11) (n.patch_mask / 2 ^ bit_place patch % 2) 0
counts n (Text t) = 0

module _ (n : LuminaireNumbers) (which : Option ℕ) (text : List ℕ) where
  number_count : (i : ℕ) (f : LuminaireField) (kind : FieldKind) → f.kind ≡ kind → length (number_writes (writes_at n which text i f)) ≡ counts n kind
  number_count i f LayoutId e = rw e
  number_count i f (Number patch r) e =
      let bit = n.patch_mask / 2 ^ bit_place patch in
      by_test (ltb (bit_place patch) 11)
      (λ few.
      by_test (is_set n.patch_mask (bit_place patch))
      (λ t. rw (e, sym (number_set n patch t (ltb-true (bit_place patch) 11 few)), few) (sym (eqb-true (bit % 2) 1 t)))
      (λ t. rw (e, sym (number_unset n patch t), few) (omega (arith, eqb-false (bit % 2) 1 t))))
      (λ many. rw (e, sym (number_over n patch (ltb-false (bit_place patch) 11 many)), many))
  number_count i f (Text t) e =
      by_test (is_for which i)
      (λ w. rw (e, w))
      (λ w. rw (e, w))

  all_counted : (g : ℕ → LuminaireField → List Write) (fs : List LuminaireField) → ((i : ℕ) (f : LuminaireField) → length (g i f) ≡ counts n f.kind) → length (gather g fs) ≡ total (λ (f : LuminaireField). counts n f.kind) fs
  all_counted g [] h = refl
  all_counted g (f ∷ fs) h = length-append (g 0 f) (gather (λ i. g (suc i)) fs) ∙ rw (h 0 f, all_counted (λ i. g (suc i)) fs (λ i. h (suc i)))

  -- in the table each of the eleven bits stands once
  each_once : total (λ (f : LuminaireField). counts n f.kind) luminaire_fields ≡ digits 11 0 n.patch_mask
  unfolding luminaire_fields count_trailing_zeros
  each_once = simp zero-add

  numbers_planned : n.patch_mask ≤ 2047 → length (number_writes (planned_writes n which text)) ≡ ones n.patch_mask
  unfolding planned_writes
  numbers_planned h =
      ap length (flat_gather (λ (w : Write). if_number w.field.kind w) (writes_at n which text) luminaire_fields)
      ∙ all_counted (λ i f. number_writes (writes_at n which text i f)) luminaire_fields (λ i f. number_count i f f.kind refl)
      ∙ each_once
      ∙ digits_are 11 0 n.patch_mask
      ∙ ap (ones_in 11) (div-one n.patch_mask)
      ∙ sym (ones_within 11 n.patch_mask (omega arith))

pub every_wanted_number_planned : EveryWantedNumberPlanned
every_wanted_number_planned n which text h = numbers_planned n which text h
