-- Laws of UTF-8 sequences: bytes that follow ranges, and the row of a first byte.
-- Assumes nothing.
use Rattle.std.specs.Prelude.{None, Option, Some, slice_get, option_map}
use Rattle.std.specs.Bool.{then_some}
use Rattle.std.specs.List.{list_all}
use Rattle.std.proofs.lemmas.Option.{same_Some}
use mathlib.Core.Path.{◌≡◌, refl, sym, ap, subst, ◌∙◌}
use mathlib.Core.Bool.{Bool, true, false, ◌&&◌, cond}
use mathlib.Core.List.{List, [], ◌∷◌, ◌++◌}
use Prim.Native.Nat.{ℕ, zero, suc, ◌≤◌, ◌<◌, zero-le}
use native.Mathlib.Nat.{not-suc-le-zero, le_of_suc-le-suc}
use native.Mathlib.Omega.{arith}
use borrow.Author.Tests.{le-leb, lt-leb, leb-true, leb-false}
use lib.Dec.{T, leb, ltb, ltb→lt, leb→le}
use lib.ListN.{length, take, drop, replicate, take-append-drop}
use Rattle.bus.specs.Maps.{first_with}
use Rattle.bus.proofs.Tests.{and_left, and_right, no_yes, by_test}
use Rattle.bus.proofs.Lists.{no_element, first_passes}
use Rattle.records.specs.Utf8.{Range, to, tail, Row, table3_7, within, follow, begins, row_len, sequence_len}

-- as many of the ranges 80 to BF hex as there are bytes ask each of those, and none behind them
all_tail : (xs rest : List ℕ) → follow (replicate (length xs) tail) (xs ++ rest) ≡ list_all (within tail) xs
unfolding follow
all_tail [] rest = refl
all_tail (x ∷ xs) rest = ap (λ (t : Bool). within tail x && t) (all_tail xs rest)

-- and behind another range, which asks the first byte
pub follow_first : (bytes : List ℕ) (n : ℕ) (r : Range) {b : ℕ} {further : List ℕ} → take n bytes ≡ b ∷ further
    → follow (r ∷ replicate (length further) tail) bytes ≡ within r b && list_all (within tail) further
unfolding follow
follow_first bytes n r {b} {further} e =
    ap (follow (r ∷ replicate (length further) tail)) (sym (take-append-drop n bytes) ∙ ap (λ (p : List ℕ). p ++ drop n bytes) e)
    ∙ ap (λ (t : Bool). within r b && t) (all_tail further (drop n bytes))

-- too few bytes follow no ranges
pub too_few : (rs : List Range) (bs : List ℕ) → length bs < length rs → follow rs bs ≡ false
unfolding follow
too_few [] bs h = absurd (not-suc-le-zero h)
too_few (r ∷ rs) [] h = refl
too_few (r ∷ rs) (b ∷ bs) h = by (within r b) (too_few rs bs (le_of_suc-le-suc h))
  where
    by : (t : Bool) → follow rs bs ≡ false → t && follow rs bs ≡ false
    by true e = e
    by false e = refl

-- ---- the row of a first byte: the table's rows stand by rising first byte

module _ (r : Range) (b : ℕ) where
  inside : r.low ≤ b → b ≤ r.high → within r b ≡ true
  inside h k = rw (le-leb r.low b h) (le-leb b r.high k)

  under : b < r.low → within r b ≡ false
  under h = rw (lt-leb r.low b h)

  over : r.high < b → within r b ≡ false
  over h = by (leb r.low b)
    where
      by : (t : Bool) → t && leb b r.high ≡ false
      by true = lt-leb b r.high h
      by false = refl

-- every first byte of these rows is above a number
abbrev all_over : ℕ → List Row → Bool
all_over n [] = true
all_over n (r ∷ rs) = ltb n r.first.low && all_over n rs

-- no first byte of these rows is above a number
abbrev none_over : ℕ → List Row → Bool
none_over n [] = true
none_over n (r ∷ rs) = leb r.first.high n && none_over n rs

-- the first bytes of every row are below those of the rows behind it
abbrev rising : List Row → Bool
rising [] = true
rising (r ∷ rs) = all_over r.first.high rs && rising rs

over_at : (n : ℕ) (rs : List Row) (k : ℕ) {r : Row} → T (all_over n rs) → slice_get rs k ≡ Some r → n < r.first.low
over_at n [] k t e = no_element e
over_at n (s ∷ rs) zero {r} t e =
    let same : s ≡ r = cc in
    subst (λ (q : Row). n < q.first.low) same (ltb→lt n s.first.low (and_left (ltb n s.first.low) (all_over n rs) t))
over_at n (s ∷ rs) (suc k) t e = over_at n rs k (and_right (ltb n s.first.low) (all_over n rs) t) e

module _ (x : ℕ) (xs : List ℕ) where
  abbrev Begun : List Row → Option Row
  Begun rs = first_with (begins (x ∷ xs)) rs

  -- a row whose first bytes do not hold it is passed
  pass : (r : Row) (rs : List Row) → within r.first x ≡ false → Begun (r ∷ rs) ≡ Begun rs
  unfolding first_with follow
  pass r rs e = rw e

  none_under : (n : ℕ) (rs : List Row) → T (all_over n rs) → x ≤ n → Begun rs ≡ None
  unfolding first_with
  none_under n [] t h = refl
  none_under n (r ∷ rs) t h =
      let low = ltb→lt n r.first.low (and_left (ltb n r.first.low) (all_over n rs) t) in
      pass r rs (under r.first x (omega arith)) ∙ none_under n rs (and_right (ltb n r.first.low) (all_over n rs) t) h

  none_over_lem : (n : ℕ) (rs : List Row) → T (none_over n rs) → n < x → Begun rs ≡ None
  unfolding first_with
  none_over_lem n [] t h = refl
  none_over_lem n (r ∷ rs) t h =
      let high = leb→le r.first.high n (and_left (leb r.first.high n) (none_over n rs) t) in
      pass r rs (over r.first x (omega arith)) ∙ none_over_lem n rs (and_right (leb r.first.high n) (none_over n rs) t) h

  -- a row with such a first byte is the only one that the bytes can begin with
  at_head : (r : Row) (rs : List Row) → T (all_over r.first.high rs) → within r.first x ≡ true → x ≤ r.first.high → Begun (r ∷ rs) ≡ cond (follow r.further xs) (Some r) None
  unfolding first_with follow
  at_head r rs t e h = rw (e, none_under r.first.high rs t h)

  only_row : (rs : List Row) (k : ℕ) {r : Row} → T (rising rs) → slice_get rs k ≡ Some r → r.first.low ≤ x → x ≤ r.first.high → Begun rs ≡ cond (follow r.further xs) (Some r) None
  only_row [] k t e h j = no_element e
  only_row (s ∷ rs) zero {r} t e h j =
      let same : s ≡ r = cc in
      rw same (at_head r rs (subst (λ (q : Row). T (all_over q.first.high rs)) same (and_left (all_over s.first.high rs) (rising rs) t)) (inside r.first x h j) j)
  only_row (s ∷ rs) (suc k) {r} t e h j =
      let low = over_at s.first.high rs k (and_left (all_over s.first.high rs) (rising rs) t) e in
      pass s rs (over s.first x (omega arith)) ∙ only_row rs k (and_right (all_over s.first.high rs) (rising rs) t) e h j

-- no first byte, no sequence
pub no_first : (bytes : List ℕ) → None ≡ slice_get bytes 0 → sequence_len bytes ≡ None
unfolding sequence_len table3_7 first_with follow
no_first [] e = refl
no_first (b ∷ bs) e = no_element e

begun : (bytes : List ℕ) {b : ℕ} → Some b ≡ slice_get bytes 0 → bytes ≡ b ∷ drop 1 bytes
begun [] e = no_element (sym e)
begun (x ∷ xs) e = ap (λ (y : ℕ). y ∷ xs) (sym (same_Some _ _ e))

module _ (bytes : List ℕ) {b : ℕ} (first : Some b ≡ slice_get bytes 0) where
  -- the length by the row of the first byte
  pub row_of : (k : ℕ) {r : Row} → slice_get table3_7 k ≡ Some r → r.first.low ≤ b → b ≤ r.first.high → then_some (follow r.further (drop 1 bytes)) (row_len r) ≡ sequence_len bytes
  unfolding sequence_len table3_7
  row_of k {r} e h j =
      rw (begun bytes first)
      (by (follow r.further (drop 1 bytes)) ∙ ap (option_map row_len) (sym (only_row b (drop 1 bytes) table3_7 k tt e h j)))
    where
      by : (t : Bool) → then_some t (row_len r) ≡ option_map row_len (cond t (Some r) None)
      by true = refl
      by false = refl

  -- no row has a first byte from 80 to C1 hex, nor one above F4
  pub no_row_under : 0x80 ≤ b → b < 0xC2 → sequence_len bytes ≡ None
  unfolding sequence_len table3_7
  no_row_under h k =
      rw (begun bytes first)
      (ap (option_map row_len) (pass b (drop 1 bytes) _ _ (over (to 0x00 0x7F) b h) ∙ none_under b (drop 1 bytes) 0xC1 _ tt (omega arith)))

  pub no_row_over : 0xF4 < b → sequence_len bytes ≡ None
  unfolding sequence_len table3_7
  no_row_over h = rw (begun bytes first) (ap (option_map row_len) (none_over_lem b (drop 1 bytes) 0xF4 table3_7 tt h))

-- ---- a sequence is a part of its bytes, and not an empty one

long : (rs : List Range) (bs : List ℕ) → follow rs bs ≡ true → length rs ≤ length bs
long rs bs e =
    by_test (leb (length rs) (length bs))
    (λ t. leb-true (length rs) (length bs) t)
    (λ t. absurd (no_yes (sym (too_few rs bs (leb-false (length rs) (length bs) t)) ∙ e)))

pub part_of : (bytes : List ℕ) {n : ℕ} → sequence_len bytes ≡ Some n → (0 < n) × (n ≤ length bytes)
unfolding sequence_len
part_of bytes {n} = by (first_with (begins bytes) table3_7) refl
  where
    by : (o : Option Row) → first_with (begins bytes) table3_7 ≡ o → option_map row_len o ≡ Some n → (0 < n) × (n ≤ length bytes)
    by None e s = no_element s
    by (Some r) e s =
        let same = same_Some _ _ s in
        (omega arith, rw (sym same) (long (r.first ∷ r.further) bytes (first_passes (begins bytes) table3_7 e)))

-- a byte to 7F hex is a sequence of its own
pub one_byte : (b : ℕ) (bs : List ℕ) → b ≤ 0x7F → sequence_len (b ∷ bs) ≡ Some 1
unfolding table3_7 follow
one_byte b bs h = sym (row_of (b ∷ bs) refl 0 refl zero-le h)
