-- Laws of stores in a bank that are cut, for any stores that stand in their own fields: a bank seen through a field's place
-- has what the cut takes in of that field's stores.
-- Assumes nothing.
use Rattle.std.proofs.lemmas.Option.{same_Some}
use Rattle.std.specs.Prelude.{Some, slice_get}
use mathlib.Core.Path.{◌≡◌, refl, sym, ap, ◌∙◌, subst}
use mathlib.Core.Logic.{◌≢◌}
use mathlib.Core.List.{List, [], ◌∷◌, ◌++◌, append_assoc}
use Prim.Native.Nat.{ℕ, zero, suc, ◌+◌, ◌-◌, ◌≤◌, ◌<◌}
use native.Mathlib.Nat.{sub-zero, zero-sub, suc-sub-suc, add-zero, zero-add, not-suc-le-zero}
use native.Mathlib.Omega.{arith}
use borrow.Author.Tests.{ltb-true, ltb-false}
use lib.Dec.{ltb}
use lib.ListN.{length, take, drop, set, length-set, length-append, length-take, length-drop}
use lib.Seq.{sets, sets-eq, take-nil, take_all, take-length, drop-nil, drop-set-lt, drop-set-add, take-set-lt, take-set-le, take-append_seam, take-append-le, drop-append_seam}
use Rattle.bus.proofs.Lists.{no_element, sets_cons}
use Rattle.bus.proofs.Tests.{by_test}
use Rattle.bank.specs.declared.luminaire_write.LuminaireField.{LuminaireField}
use Rattle.bank.specs.Fields.{field_end}
use Rattle.records.specs.Writes.{Store, gather, single_bytes, Each, InField}
use Rattle.records.specs.Cut.{stored}
use Rattle.records.proofs.Gathering.{each_append, each_map, each_gather}
use Rattle.records.proofs.Table.{Sorted}

-- ---- parts of lists

module _ {A : Type 0} where
  pub take_append : (k : ℕ) (a b : List A) → take k (a ++ b) ≡ take k a ++ take (k - length a) b
  take_append k [] b = simp (take-nil, sub-zero)
  take_append zero (x ∷ a) b = simp zero-sub
  take_append (suc k) (x ∷ a) b = rw suc-sub-suc (ap (λ (r : List A). x ∷ r) (take_append k a b))

  pub drop_take : (n k : ℕ) (l : List A) → drop n (take k l) ≡ take (k - n) (drop n l)
  drop_take zero k l = rw sub-zero
  drop_take (suc n) zero l = simp (drop-nil, zero-sub)
  drop_take (suc n) (suc k) [] = simp (drop-nil, take-nil)
  drop_take (suc n) (suc k) (x ∷ l) = rw suc-sub-suc (drop_take n k l)

  -- as many as were taken
  pub take_again : (j : ℕ) (xs : List A) → take (length (take j xs)) xs ≡ take j xs
  take_again zero xs = refl
  take_again (suc j) [] = refl
  take_again (suc j) (x ∷ xs) = ap (λ (r : List A). x ∷ r) (take_again j xs)

  -- as many of a list's first elements as its first part has are those of that part
  pub take_share : (j : ℕ) (a b : List A) → take (length a) (take j (a ++ b)) ≡ take j a
  take_share j a b =
      by_test (ltb (length a) j)
      (λ t.
      let long = ltb-true (length a) j t in
      rw (take_append j a b, take_all j a (omega arith)) (take-append_seam a (take (j - length a) b)))
      (λ t.
      let short = ltb-false (length a) j t in
      rw (take-append-le j a b short) (take_all (length a) (take j a) (rw length-take (omega arith))))

-- ---- one store, seen through the place from an offset on, so many bytes long

abbrev pub part : ℕ → ℕ → List ℕ → List ℕ
part o n bank = take n (drop o bank)

pub length_part : (o n : ℕ) (bank : List ℕ) → o + n ≤ length bank → length (part o n bank) ≡ n
length_part o n bank h = simp (length-take, length-drop) (omega arith)

module _ (o n : ℕ) where
  set_before : (bank : List ℕ) (x v : ℕ) → x < o → part o n (set bank x v) ≡ part o n bank
  set_before bank x v h = ap (take n) (drop-set-lt o bank x v h)

  pub set_inside : (bank : List ℕ) (y v : ℕ) → y < n → part o n (set bank (o + y) v) ≡ set (part o n bank) y v
  set_inside bank y v h = ap (take n) (drop-set-add o bank y v) ∙ take-set-lt n (drop o bank) y v h

  set_behind : (bank : List ℕ) (x v : ℕ) → o + n ≤ x → part o n (set bank x v) ≡ part o n bank
  set_behind bank x v h =
      let e : o + (x - o) ≡ x = omega arith in
      subst (λ (k : ℕ). part o n (set bank k v) ≡ part o n bank) e
      (ap (take n) (drop-set-add o bank (x - o) v) ∙ take-set-le n (drop o bank) (x - o) v (omega arith))

  -- a store sees no more of a bank than that place
  set_local : (b c : List ℕ) (x v : ℕ) → part o n b ≡ part o n c → part o n (set b x v) ≡ part o n (set c x v)
  set_local b c x v e =
      by_test (ltb x o)
      (λ t. set_before b x v (ltb-true x o t) ∙ e ∙ sym (set_before c x v (ltb-true x o t)))
      (λ t.
      by_test (ltb x (o + n))
      (λ u.
      let from = ltb-false x o t in
      let to = ltb-true x (o + n) u in
      let q : o + (x - o) ≡ x = omega arith in
      subst (λ (j : ℕ). part o n (set b j v) ≡ part o n (set c j v)) q
      (set_inside b (x - o) v (omega arith) ∙ ap (λ (r : List ℕ). set r (x - o) v) e ∙ sym (set_inside c (x - o) v (omega arith))))
      (λ u. set_behind b x v (ltb-false x (o + n) u) ∙ e ∙ sym (set_behind c x v (ltb-false x (o + n) u))))

-- ---- lists of stores

pub length_stored : (ss : List Store) (bank : List ℕ) → length (stored ss bank) ≡ length bank
length_stored [] bank = refl
length_stored (s ∷ ss) bank = length_stored ss (set bank s.offset s.value) ∙ length-set bank s.offset s.value

pub stored_append : (ss ts : List Store) (bank : List ℕ) → stored (ss ++ ts) bank ≡ stored ts (stored ss bank)
stored_append [] ts bank = refl
stored_append (s ∷ ss) ts bank = stored_append ss ts (set bank s.offset s.value)

pub each_take : {A : Type 0} (P : A → Type 0) (k : ℕ) (xs : List A) → Each P xs → Each P (take k xs)
each_take P zero xs a = tt
each_take P (suc k) [] a = tt
each_take P (suc k) (x ∷ xs) a = (a.0, each_take P k xs a.1)

module _ (o n : ℕ) where
  stored_local : (ss : List Store) (b c : List ℕ) → part o n b ≡ part o n c → part o n (stored ss b) ≡ part o n (stored ss c)
  stored_local [] b c e = e
  stored_local (s ∷ ss) b c e = stored_local ss (set b s.offset s.value) (set c s.offset s.value) (set_local o n b c s.offset s.value e)

  stored_before : (ss : List Store) (bank : List ℕ) → Each (λ (s : Store). s.offset < o) ss → part o n (stored ss bank) ≡ part o n bank
  stored_before [] bank a = refl
  stored_before (s ∷ ss) bank a = stored_before ss (set bank s.offset s.value) a.1 ∙ set_before o n bank s.offset s.value a.0

  stored_behind : (ss : List Store) (bank : List ℕ) → Each (λ (s : Store). o + n ≤ s.offset) ss → part o n (stored ss bank) ≡ part o n bank
  stored_behind [] bank a = refl
  stored_behind (s ∷ ss) bank a = stored_behind ss (set bank s.offset s.value) a.1 ∙ set_behind o n bank s.offset s.value a.0

  -- bytes stored one after the other within the place
  pub stored_inside : (bytes bank : List ℕ) (x y : ℕ) → x ≡ o + y → y + length bytes ≤ n → part o n (stored (single_bytes x bytes) bank) ≡ sets (part o n bank) y bytes
  stored_inside [] bank x y e h = refl
  stored_inside (b ∷ bytes) bank x y e h =
      stored_inside bytes (set bank x b) (suc x) (suc y) (omega arith) (omega arith)
      ∙ ap (λ (r : List ℕ). sets r (suc y) bytes) (ap (λ (k : ℕ). part o n (set bank k b)) e ∙ set_inside o n bank y b (omega arith))

-- ---- the stores of a write, cut, in the place of its field

single_take : (m o : ℕ) (bytes : List ℕ) → take m (single_bytes o bytes) ≡ single_bytes o (take m bytes)
single_take zero o bytes = refl
single_take (suc m) o [] = refl
single_take (suc m) o (b ∷ bytes) = ap (λ (r : List Store). record { offset = o; value = b } ∷ r) (single_take m (suc o) bytes)

sets_front : (xs l : List ℕ) → length xs ≤ length l → sets l 0 xs ≡ xs ++ drop (length xs) l
sets_front xs l h = rw (sets-eq xs l 0 (omega arith), zero-add)

module _ (o n : ℕ) (bank : List ℕ) (fits : o + n ≤ length bank) where
  -- bytes that are stored from the first on
  pub bytes_made : (bytes : List ℕ) → length bytes ≤ n → part o n (stored (single_bytes o bytes) bank) ≡ bytes ++ drop (length bytes) (part o n bank)
  bytes_made bytes h =
      stored_inside o n bytes bank o 0 (omega arith) (omega arith)
      ∙ sets_front bytes (part o n bank) (omega (arith, length_part o n bank fits))

  -- some of them: new leading bytes, and the old ones behind
  pub leading_made : (m : ℕ) (bytes : List ℕ) → length bytes ≤ n → part o n (stored (take m (single_bytes o bytes)) bank) ≡ take m bytes ++ drop (length (take m bytes)) (part o n bank)
  leading_made m bytes h = ap (λ (ss : List Store). part o n (stored ss bank)) (single_take m o bytes) ∙ bytes_made (take m bytes) (rw length-take (omega arith))

  -- a text of two or more bytes: 00, then the bytes behind the first, then the first
  module _ (x y : ℕ) (ys : List ℕ) (h : length (x ∷ y ∷ ys) ≤ n) where
    abbrev emptied : Store
    emptied = record { offset = o; value = 0 }

    abbrev headed : Store
    headed = record { offset = o; value = x }

    abbrev staged : List Store
    staged = emptied ∷ (single_bytes (o + 1) (y ∷ ys) ++ headed ∷ [])

    -- the place behind the 00 and some bytes of the tail
    tail_laid : (m : ℕ) → part o n (stored (single_bytes (o + 1) (take m (y ∷ ys))) (set bank o 0)) ≡ sets (set (part o n bank) 0 0) 1 (take m (y ∷ ys))
    tail_laid m =
        let few : length (take m (y ∷ ys)) ≤ length (y ∷ ys) = rw length-take (omega arith) in
        stored_inside o n (take m (y ∷ ys)) (set bank o 0) (o + 1) 1 refl (omega arith)
        ∙ ap (λ (r : List ℕ). sets r 1 (take m (y ∷ ys))) (ap (λ (k : ℕ). part o n (set bank k 0)) (sym (add-zero o)) ∙ set_inside o n bank 0 0 (omega arith))

    -- begun and not all made, it begins with 00
    pub begins_zero : (m : ℕ) → 1 ≤ m → m < length staged → (rest : List ℕ) × (part o n (stored (take m staged) bank) ≡ 0 ∷ rest)
    begins_zero zero k l = let z : ⊥ = omega arith in absurd z
    begins_zero (suc m) k l =
        let tail = single_bytes (o + 1) (y ∷ ys) in
        let short : m ≤ length tail = omega (arith, simp length-append at l) in
        let cut : take m (tail ++ headed ∷ []) ≡ single_bytes (o + 1) (take m (y ∷ ys)) = take-append-le m tail (headed ∷ []) short ∙ single_take m (o + 1) (y ∷ ys) in
        let first = zero_first (part o n bank) (take m (y ∷ ys)) (omega (arith, length_part o n bank fits)) in
        (first.0, ap (λ (ss : List Store). part o n (stored ss (set bank o 0))) cut ∙ tail_laid m ∙ first.1)
      where
        zero_first : (l vs : List ℕ) → 1 ≤ length l → (rest : List ℕ) × (sets (set l 0 0) 1 vs ≡ 0 ∷ rest)
        zero_first [] vs h = absurd (not-suc-le-zero h)
        zero_first (z ∷ l) vs h = (sets l 0 vs, sets_cons 0 l 0 vs)

    -- all made, it has its bytes
    pub text_made : part o n (stored staged bank) ≡ (x ∷ y ∷ ys) ++ drop (length (x ∷ y ∷ ys)) (part o n bank)
    text_made =
        let c : List ℕ = stored (single_bytes (o + 1) (y ∷ ys)) (set bank o 0) in
        ap (part o n) (stored_append (single_bytes (o + 1) (y ∷ ys)) (headed ∷ []) (set bank o 0))
        ∙ ap (λ (k : ℕ). part o n (set c k x)) (sym (add-zero o))
        ∙ set_inside o n c 0 x (omega arith)
        ∙ ap (λ (r : List ℕ). set r 0 x) (ap (λ (vs : List ℕ). part o n (stored (single_bytes (o + 1) vs) (set bank o 0))) (sym (take-length (y ∷ ys))) ∙ tail_laid (length (y ∷ ys)) ∙ ap (sets (set (part o n bank) 0 0) 1) (take-length (y ∷ ys)))
        ∙ headed_front (part o n bank) (omega (arith, length_part o n bank fits))
      where
        headed_front : (l : List ℕ) → length (x ∷ y ∷ ys) ≤ length l → set (sets (set l 0 0) 1 (y ∷ ys)) 0 x ≡ (x ∷ y ∷ ys) ++ drop (length (x ∷ y ∷ ys)) l
        headed_front [] k = let z : ⊥ = omega arith in absurd z
        headed_front (z ∷ l) k = ap (λ (r : List ℕ). set r 0 x) (sets_cons 0 l 0 (y ∷ ys)) ∙ ap (λ (r : List ℕ). x ∷ r) (sets_front (y ∷ ys) l (omega arith))

-- a byte at no store is as before
pub stored_elsewhere : (j : ℕ) (ss : List Store) (bank : List ℕ) → Each (λ (s : Store). j ≢ s.offset) ss → slice_get (stored ss bank) j ≡ slice_get bank j
stored_elsewhere j [] bank a = refl
stored_elsewhere j (s ∷ ss) bank a = stored_elsewhere j ss (set bank s.offset s.value) a.1 ∙ other bank s.offset j s.value a.0
  where
    other : (l : List ℕ) (i j v : ℕ) → j ≢ i → slice_get (set l i v) j ≡ slice_get l j
    other [] i j v h = refl
    other (x ∷ l) zero zero v h = absurd (h refl)
    other (x ∷ l) zero (suc j) v h = refl
    other (x ∷ l) (suc i) zero v h = refl
    other (x ∷ l) (suc i) (suc j) v h = other l i j v (λ e. h (ap suc e))

-- ---- the stores of fields, one after the other, each field's in its own place

abbrev pub InFields : (ℕ → LuminaireField → List Store) → List LuminaireField → Type 0
InFields g fs = (i : ℕ) (f : LuminaireField) → slice_get fs i ≡ Some f → Each (InField f) (g i f)

later : (z : ℕ) (fs : List LuminaireField) → Sorted z fs → (i : ℕ) {f : LuminaireField} → slice_get fs i ≡ Some f → z ≤ f.offset
later z [] s i e = no_element e
later z (g ∷ fs) s zero e = subst (λ (f : LuminaireField). z ≤ f.offset) (same_Some _ _ e) s.0
later z (g ∷ fs) s (suc i) e = omega (arith, s.0, later (field_end g) fs s.1 i e)

-- a field's stores among all: those before stand before its place, those behind stand behind it
pub record Split (g : ℕ → LuminaireField → List Store) (fs : List LuminaireField) (i : ℕ) (f : LuminaireField) : Type 0 where
  pub behind : List Store
  pub is : gather g fs ≡ gather g (take i fs) ++ (g i f ++ behind)
  pub ends_before : Each (λ (s : Store). s.offset < f.offset) (gather g (take i fs))
  pub starts_behind : Each (λ (s : Store). field_end f ≤ s.offset) behind

pub split : (g : ℕ → LuminaireField → List Store) (z : ℕ) (fs : List LuminaireField) → Sorted z fs → InFields g fs → (i : ℕ) {f : LuminaireField} → slice_get fs i ≡ Some f → Split g fs i f
split g z [] s w i e = no_element e
split g z (h ∷ fs) s w zero e =
    subst (Split g (h ∷ fs) 0) (same_Some _ _ e)
    (record {
      behind = gather (λ i. g (suc i)) fs;
      is = refl;
      ends_before = tt;
      starts_behind = each_gather (λ (s : Store). field_end h ≤ s.offset) (λ i. g (suc i)) fs (λ i f k.
          let from = later (field_end h) fs s.1 i k in
          each_map (InField f) (λ (s : Store). field_end h ≤ s.offset) (λ s a. omega (arith, a.0, from)) (g (suc i) f) (w (suc i) f k));
    })
split g z (h ∷ fs) s w (suc i) {f} e =
    let r = split (λ i. g (suc i)) (field_end h) fs s.1 (λ i. w (suc i)) i e in
    let from = later (field_end h) fs s.1 i e in
    record {
      behind = r.behind;
      is = ap (λ (l : List Store). g 0 h ++ l) r.is ∙ sym (append_assoc (g 0 h) (gather (λ i. g (suc i)) (take i fs)) (g (suc i) f ++ r.behind));
      ends_before = each_append (λ (s : Store). s.offset < f.offset) (g 0 h) (gather (λ i. g (suc i)) (take i fs))
          (each_map (InField h) (λ (s : Store). s.offset < f.offset) (λ s a. omega (arith, a.1, from)) (g 0 h) (w 0 h refl))
          r.ends_before;
      starts_behind = r.starts_behind;
    }

module _ (g : ℕ → LuminaireField → List Store) (fs : List LuminaireField) (s : Sorted 0 fs) (w : InFields g fs) (i : ℕ) {f : LuminaireField} (e : slice_get fs i ≡ Some f) where
  own : Split g fs i f
  own = split g 0 fs s w i e

  -- what a cut of all stores leaves in a field's place is what it takes in of the field's own
  pub window : (k : ℕ) (bank : List ℕ) → part f.offset f.len (stored (take k (gather g fs)) bank) ≡ part f.offset f.len (stored (take (k - length (gather g (take i fs))) (g i f)) bank)
  window k bank =
      let front = gather g (take i fs) in
      let mine = take (k - length front) (g i f) in
      let rest = take (k - length front - length (g i f)) own.behind in
      let cut : take k (gather g fs) ≡ take k front ++ (mine ++ rest) =
      ap (take k) own.is ∙ take_append k front (g i f ++ own.behind) ∙ ap (λ (l : List Store). take k front ++ l) (take_append (k - length front) (g i f) own.behind) in
      let before : List ℕ = stored (take k front) bank in
      ap (λ (l : List Store). part f.offset f.len (stored l bank)) cut
      ∙ ap (part f.offset f.len) (stored_append (take k front) (mine ++ rest) bank ∙ stored_append mine rest before)
      ∙ stored_behind f.offset f.len rest (stored mine before) (each_take (λ (s : Store). field_end f ≤ s.offset) (k - length front - length (g i f)) own.behind own.starts_behind)
      ∙ stored_local f.offset f.len mine before bank
      (stored_before f.offset f.len (take k front) bank (each_take (λ (s : Store). s.offset < f.offset) k front own.ends_before))

  -- and those stand together in the list
  pub share : (k : ℕ) → take (length (g i f)) (drop (length (gather g (take i fs))) (take k (gather g fs))) ≡ take (k - length (gather g (take i fs))) (g i f)
  share k =
      let front = gather g (take i fs) in
      ap (take (length (g i f))) (drop_take (length front) k (gather g fs) ∙ ap (λ (l : List Store). take (k - length front) (drop (length front) l)) own.is ∙ ap (take (k - length front)) (drop-append_seam front (g i f ++ own.behind)))
      ∙ take_share (k - length front) (g i f) own.behind

-- the stores of a field end in the list where those of a later one begin, or before
pub in_turn : (g : ℕ → LuminaireField → List Store) (fs : List LuminaireField) (i j : ℕ) {f h : LuminaireField} → slice_get fs i ≡ Some f → slice_get fs j ≡ Some h → i < j
    → length (gather g (take i fs)) + length (g i f) ≤ length (gather g (take j fs))
in_turn g [] i j e d l = no_element e
in_turn g (x ∷ fs) i zero e d l = absurd (not-suc-le-zero l)
in_turn g (x ∷ fs) zero (suc j) e d l = simp length-append (omega (arith, ap (λ (f : LuminaireField). length (g 0 f)) (same_Some _ _ e)))
in_turn g (x ∷ fs) (suc i) (suc j) e d l = simp length-append (omega (arith, in_turn (λ i. g (suc i)) fs i j e d (omega arith)))
