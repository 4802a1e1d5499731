-- Laws of what the fields give one after the other, and of what a list's elements give.
-- Assumes nothing.
use Rattle.std.proofs.lemmas.Option.{get_or_from_slice_get, same_Some, slice_get_within}
use Rattle.std.specs.Prelude.{Some, slice_get}
use mathlib.Core.Path.{◌≡◌, refl, sym, ap, ◌∙◌}
use mathlib.Core.List.{List, [], ◌∷◌, ◌++◌, append_assoc, append-nil}
use Prim.Native.Nat.{ℕ, zero, suc, ◌+◌, ◌≤◌, ◌<◌}
use native.Mathlib.Numerals.{add-one}
use native.Mathlib.Omega.{arith}
use native.Mathlib.Nat.{le_of_suc-le-suc, not-suc-le-zero, suc_inj, suc-ne-zero}
use lib.ListN.{length, take, get_or, length-append}
use lib.Seq.{take-nil}
use Rattle.bus.proofs.Lists.{no_element}
use Rattle.bank.specs.declared.luminaire_write.LuminaireField.{LuminaireField}
use Rattle.records.specs.Writes.{gather, flat, Each}

module _ {A B : Type 0} (g : A → List B) where
  pub flat_append : (xs ys : List A) → flat g (xs ++ ys) ≡ flat g xs ++ flat g ys
  flat_append [] ys = refl
  flat_append (x ∷ xs) ys = ap (λ (r : List B). g x ++ r) (flat_append xs ys) ∙ sym (append_assoc (g x) (flat g xs) (flat g ys))

pub flat_gather : {A B : Type 0} (h : A → List B) (g : ℕ → LuminaireField → List A) (fs : List LuminaireField) → flat h (gather g fs) ≡ gather (λ i f. flat h (g i f)) fs
flat_gather h g [] = refl
flat_gather h g (f ∷ fs) = flat_append h (g 0 f) (gather (λ i. g (suc i)) fs) ∙ ap (λ r. flat h (g 0 f) ++ r) (flat_gather h (λ i. g (suc i)) fs)

module _ {A : Type 0} where
  -- one more field
  gather_suc : (g : ℕ → LuminaireField → List A) (fs : List LuminaireField) (i : ℕ) (d : LuminaireField) → i < length fs
      → gather g (take (suc i) fs) ≡ gather g (take i fs) ++ g i (get_or fs i d)
  gather_suc g [] i d h = absurd (not-suc-le-zero h)
  gather_suc g (f ∷ fs) zero d h = append-nil (g 0 f)
  gather_suc g (f ∷ fs) (suc i) d h =
      ap (λ (r : List A). g 0 f ++ r) (gather_suc (λ i. g (suc i)) fs i d (le_of_suc-le-suc h))
      ∙ sym (append_assoc (g 0 f) (gather (λ i. g (suc i)) (take i fs)) (g (suc i) (get_or fs i d)))

  pub gather_next : (g : ℕ → LuminaireField → List A) (fs : List LuminaireField) (i : ℕ) (d : LuminaireField) → i < length fs
      → gather g (take (i + 1) fs) ≡ gather g (take i fs) ++ g i (get_or fs i d)
  gather_next g fs i d h = ap (λ (n : ℕ). gather g (take n fs)) (add-one i) ∙ gather_suc g fs i d h

  pub gather_row : (g : ℕ → LuminaireField → List A) (fs : List LuminaireField) (i : ℕ) {f : LuminaireField} → slice_get fs i ≡ Some f
      → gather g (take (i + 1) fs) ≡ gather g (take i fs) ++ g i f
  gather_row g fs i {f} e =
      gather_next g fs i f (slice_get_within fs i f e) ∙ ap (λ (x : LuminaireField). gather g (take i fs) ++ g i x) (get_or_from_slice_get fs i f f e)

  -- fields that give nothing
  pub gather_gap : (g : ℕ → LuminaireField → List A) (fs : List LuminaireField) (from to : ℕ) → from ≤ to
      → ((i : ℕ) (f : LuminaireField) → from ≤ i → i < to → slice_get fs i ≡ Some f → g i f ≡ []) → gather g (take to fs) ≡ gather g (take from fs)
  gather_gap g [] from to h none = simp take-nil refl
  gather_gap g (f ∷ fs) zero zero h none = refl
  gather_gap g (f ∷ fs) zero (suc to) h none =
      rw (none 0 f (omega arith) (omega arith) refl) (gather_gap (λ i. g (suc i)) fs zero to (omega arith) (λ i k a b e. none (suc i) k (omega arith) (omega arith) e))
  gather_gap g (f ∷ fs) (suc from) zero h none = let z : ⊥ = omega arith in absurd z
  gather_gap g (f ∷ fs) (suc from) (suc to) h none =
      ap (λ (r : List A). g 0 f ++ r) (gather_gap (λ i. g (suc i)) fs from to (omega arith) (λ i k a b e. none (suc i) k (omega arith) (omega arith) e))

  -- the first fields come first
  pub gather_front : (g : ℕ → LuminaireField → List A) (fs : List LuminaireField) (i : ℕ) → (rest : List A) × (gather g fs ≡ gather g (take i fs) ++ rest)
  gather_front g fs zero = (gather g fs, refl)
  gather_front g [] (suc i) = ([], refl)
  gather_front g (f ∷ fs) (suc i) =
      let r = gather_front (λ i. g (suc i)) fs i in (
        r.0,
        ap (λ (l : List A). g 0 f ++ l) r.1 ∙ sym (append_assoc (g 0 f) (gather (λ i. g (suc i)) (take i fs)) r.0),
      )

  -- and give no more than all
  pub gather_room : (g : ℕ → LuminaireField → List A) (fs : List LuminaireField) (i : ℕ) {f : LuminaireField} → slice_get fs i ≡ Some f
      → length (gather g (take i fs)) + length (g i f) ≤ length (gather g fs)
  gather_room g fs i e =
      let front = gather_front g fs (i + 1) in
      rw (front.1, gather_row g fs i e) (simp length-append (omega arith))

  -- where no field gives anything
  pub gather_nothing : (g : ℕ → LuminaireField → List A) (fs : List LuminaireField) → ((i : ℕ) (h : LuminaireField) → slice_get fs i ≡ Some h → g i h ≡ []) → gather g fs ≡ []
  gather_nothing g [] e = refl
  gather_nothing g (f ∷ fs) e = rw (e 0 f refl) (gather_nothing (λ i. g (suc i)) fs (λ i. e (suc i)))

  -- where one field alone gives something
  pub gather_only : (g : ℕ → LuminaireField → List A) (fs : List LuminaireField) (p : ℕ) {f : LuminaireField} → slice_get fs p ≡ Some f
      → ((i : ℕ) (h : LuminaireField) → (i ≡ p → ⊥) → slice_get fs i ≡ Some h → g i h ≡ []) → gather g fs ≡ g p f
  gather_only g [] p m e = no_element m
  gather_only g (h ∷ fs) zero m e =
      ap (λ (r : List A). g 0 h ++ r) (gather_nothing (λ i. g (suc i)) fs (λ i f. e (suc i) f (λ z. suc-ne-zero _ z)))
      ∙ append-nil (g 0 h)
      ∙ ap (g 0) (same_Some _ _ m)
  gather_only g (h ∷ fs) (suc p) m e = rw (e 0 h (λ z. suc-ne-zero _ (sym z)) refl) (gather_only (λ i. g (suc i)) fs p m (λ i f d. e (suc i) f (λ z. d (suc_inj z))))

-- ---- each element of lists in two parts, of what elements give, and of what fields give

module _ {A : Type 0} (P : A → Type 0) where
  pub each_append : (xs ys : List A) → Each P xs → Each P ys → Each P (xs ++ ys)
  each_append [] ys a b = b
  each_append (x ∷ xs) ys a b = (a.0, each_append xs ys a.1 b)

  pub each_gather : (g : ℕ → LuminaireField → List A) (fs : List LuminaireField) → ((i : ℕ) (f : LuminaireField) → slice_get fs i ≡ Some f → Each P (g i f)) → Each P (gather g fs)
  each_gather g [] h = tt
  each_gather g (f ∷ fs) h = each_append (g 0 f) (gather (λ i. g (suc i)) fs) (h 0 f refl) (each_gather (λ i. g (suc i)) fs (λ i. h (suc i)))

pub each_flat : {A B : Type 0} (P : B → Type 0) (g : A → List B) (xs : List A) → Each (λ (x : A). Each P (g x)) xs → Each P (flat g xs)
each_flat P g [] a = tt
each_flat P g (x ∷ xs) a = each_append P (g x) (flat g xs) a.0 (each_flat P g xs a.1)

pub each_map : {A : Type 0} (P Q : A → Type 0) → ((x : A) → P x → Q x) → (xs : List A) → Each P xs → Each Q xs
each_map P Q f [] a = tt
each_map P Q f (x ∷ xs) a = (f x a.0, each_map P Q f xs a.1)
