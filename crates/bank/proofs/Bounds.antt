-- The bounds of a chunk's length, where it is the smaller of budget and remaining, and that it is else the longest run of fields.
-- Assumes nothing.
use Rattle.std.specs.Prelude.{Option, Some, slice_get}
use mathlib.Core.Path.{◌≡◌, refl, sym, ap, ◌∙◌}
use mathlib.Core.Bool.{true, true≢false}
use mathlib.Core.List.{List, [], ◌∷◌}
use Prim.Native.Nat.{ℕ, zero, suc, ◌+◌, ◌≤◌, ◌<◌, min, max}
use native.Mathlib.Nat.{le_of_suc-le-suc, not-suc-le-zero}
use native.Mathlib.Omega.{arith}
use borrow.Author.Tests.{leb-true, leb-false, ne_eqb, eq-eqb, le-leb, lt-ltb}
use lib.Dec.{T, leb, ltb, ltb→lt}
use lib.ListN.{length, take, drop}
use Rattle.bus.specs.declared.layout.BankField.{BankField}
use Rattle.bus.specs.Width.{bytes_of}
use Rattle.bus.specs.Maps.{map_at, map_of, map_end, start_of, end_of, holds, first_with}
use Rattle.bus.proofs.Tests.{and_right, by_test}
use Rattle.bus.proofs.Lists.{no_element}
use Rattle.bus.proofs.Width.{sized}
use Rattle.bus.proofs.Contiguous.{runs, here, later}
use Rattle.bus.proofs.Maps.{every_map}
use Rattle.bank.specs.Chunk.{ChunkRule, Bounded, fields_from, with_further, whole_fields, chunk_len, ChunkLenBounded, SmallerElsewhere, total, Longest, LongestRun}
use Rattle.bank.proofs.Chunk.{chunk_end, chunk_smaller, chunk_whole}

-- what is taken never falls, and grows within the limit
record Grown (limit taken n : ℕ) : Type 0 where
  least : taken ≤ n
  most : n ≤ max limit taken

grown : (limit taken : ℕ) (xs : List BankField) → Grown limit taken (with_further limit taken xs)
unfolding with_further
grown limit taken [] = omega arith
grown limit taken (x ∷ xs) =
    let more = taken + bytes_of x.width in
    by_test (leb more limit)
    (λ t. rw t (omega (arith, grown limit more xs, leb-true more limit t)))
    (λ f. rw f (omega arith))

pub record Chunked (remaining budget n : ℕ) : Type 0 where
  pub within : n ≤ remaining
  pub few : n ≤ max budget 6
  pub some_byte : 1 ≤ remaining → 1 ≤ budget → 1 ≤ n

pub bounded : {chunk : ChunkRule} → ((bank o remaining budget : ℕ) → Chunked remaining budget (chunk bank o remaining budget)) → Bounded chunk
bounded each =
    record {
      within = λ bank o remaining budget. (each bank o remaining budget).within;
      few = λ bank o remaining budget. (each bank o remaining budget).few;
      some = λ bank o remaining budget. (each bank o remaining budget).some_byte;
    }

chunked : (remaining budget : ℕ) (xs : List BankField) → Chunked remaining budget (whole_fields remaining (min budget remaining) xs)
unfolding whole_fields
chunked remaining budget [] = omega arith
chunked remaining budget (x ∷ xs) =
    let first = bytes_of x.width in
    by_test (leb first remaining)
    (λ t. rw t (omega (arith, grown (min budget remaining) first xs, leb-true first remaining t, sized x.width)))
    (λ f. rw f (omega arith))

pub chunk_len_chunked : (bank o remaining budget : ℕ) → Chunked remaining budget (chunk_len bank o remaining budget)
unfolding chunk_len
chunk_len_chunked bank o remaining budget = chunked remaining budget (fields_from o (map_of bank))

pub chunk_len_bounded : ChunkLenBounded
chunk_len_bounded = bounded chunk_len_chunked

-- a field holds its own start
holds_start : (o : ℕ) (x : BankField) → x.offset ≡ o → holds o x ≡ true
holds_start o x h = simp (le-leb x.offset o (omega arith), lt-ltb o (end_of x) (omega (arith, sized x.width)))

-- along fields that lie one behind the other, from offset `from` on
module _ (end : ℕ) where
  none_below : (o from : ℕ) (xs : List BankField) → T (runs start_of end_of end from xs) → o < from → fields_from o xs ≡ []
  unfolding fields_from
  none_below o from [] t h = refl
  none_below o from (x ∷ xs) t h =
      let at : x.offset ≡ from = here start_of end_of end from x xs t in
      rw (ne_eqb x.offset o (omega arith)) (none_below o (end_of x) xs (later start_of end_of end from x xs t) (omega arith))

  -- where no field that holds the offset starts there, none does
  none_starts : (o from : ℕ) (xs : List BankField) → T (runs start_of end_of end from xs)
      → ((x : BankField) → first_with (holds o) xs ≡ Some x → x.offset ≡ o → ⊥) → fields_from o xs ≡ []
  unfolding fields_from first_with
  none_starts o from [] t nowhere = refl
  none_starts o from (x ∷ xs) t nowhere =
      let rest = later start_of end_of end from x xs t in
      by_test (holds o x)
      (λ e. rw (ne_eqb x.offset o (nowhere x (rw e))) (none_below o (end_of x) xs rest (ltb→lt o (end_of x) (and_right (leb x.offset o) (ltb o (end_of x)) (rw e tt)))))
      (λ e.
      let elsewhere : x.offset ≡ o → ⊥ = λ h. true≢false (sym (holds_start o x h) ∙ e) in
      rw (ne_eqb x.offset o elsewhere) (none_starts o (end_of x) xs rest (λ y f. nowhere y (rw e f))))

-- the field that holds an offset where it starts is the first from there on
starts : {x : BankField} (o : ℕ) (xs : List BankField) → first_with (holds o) xs ≡ Some x → x.offset ≡ o → (rest : List BankField) × (fields_from o xs ≡ x ∷ rest)
unfolding fields_from first_with
starts o [] e h = no_element e
starts {x} o (y ∷ ys) e h =
    by_test (holds o y)
    (λ t.
    let f : Some y ≡ Some x = rw t at e in
    let same : y ≡ x = cc in
    let at : y.offset ≡ o = ap start_of same ∙ h in
    (ys, rw (eq-eqb y.offset o at, same)))
    (λ t.
    let elsewhere : y.offset ≡ o → ⊥ = λ k. true≢false (sym (holds_start o y k) ∙ t) in
    let later = starts o ys (rw t at e) h in
    (later.0, rw (ne_eqb y.offset o elsewhere) later.1))

-- one that starts before the offset does not start there
before : {x y : BankField} {found : Option BankField} (o : ℕ) → found ≡ Some x → x.offset < o → found ≡ Some y → y.offset ≡ o → ⊥
before {x} {y} o e h f k =
    let same : x ≡ y = cc in
    omega (arith, ap start_of same)

pub smaller_elsewhere : SmallerElsewhere
unfolding chunk_len
smaller_elsewhere bank o remaining budget =
    let t = every_map (map_at bank) in
    record {
      inside = λ {x} e h. chunk_end (none_starts (map_end (map_at bank)) o 0 (map_of bank) t (λ y f k. before o e h f k)) remaining (min budget remaining);
      past = λ e. chunk_end (none_starts (map_end (map_at bank)) o 0 (map_of bank) t (λ y f k. no_element (sym e ∙ f))) remaining (min budget remaining);
      exceeds = λ {x} e h k. chunk_smaller (starts o (map_of bank) e h).1 remaining (min budget remaining) k;
    }

-- ---- the longest run

-- further fields, behind those taken
record Further (limit taken : ℕ) (fs : List BankField) (len : ℕ) : Type 0 where
  count : ℕ
  there : count ≤ length fs
  is_run : len ≡ taken + total (take count fs)
  within : 1 ≤ count → len ≤ limit
  longest : (more : ℕ) → count < more → more ≤ length fs → limit < taken + total (take more fs)

module _ (limit taken : ℕ) (x : BankField) (xs : List BankField) where
  -- the next field does not fit, and so no longer run does
  stops : limit < taken + bytes_of x.width → Further limit taken (x ∷ xs) taken
  stops h = record { count = 0; there = omega arith; is_run = omega arith; within = λ k. omega arith; longest = longer }
    where
      longer : (more : ℕ) → 0 < more → more ≤ length (x ∷ xs) → limit < taken + total (take more (x ∷ xs))
      longer zero k l = absurd (not-suc-le-zero k)
      longer (suc m) k l = omega arith

  -- it fits, and is the first of the run
  goes_on : {len : ℕ} → taken + bytes_of x.width ≤ limit → Further limit (taken + bytes_of x.width) xs len → Further limit taken (x ∷ xs) len
  goes_on {len} h r =
      record {
        count = suc r.count;
        there = omega (arith, r.there);
        is_run = omega (arith, r.is_run);
        within = λ _. fits r.count r.is_run r.within;
        longest = longer;
      }
    where
      fits : (n : ℕ) → len ≡ taken + bytes_of x.width + total (take n xs) → (1 ≤ n → len ≤ limit) → len ≤ limit
      fits zero e w = omega arith
      fits (suc n) e w = w (omega arith)

      longer : (more : ℕ) → suc r.count < more → more ≤ length (x ∷ xs) → limit < taken + total (take more (x ∷ xs))
      longer zero k l = absurd (not-suc-le-zero k)
      longer (suc m) k l = omega (arith, r.longest m (le_of_suc-le-suc k) (le_of_suc-le-suc l))

further : (limit taken : ℕ) (fs : List BankField) → Further limit taken fs (with_further limit taken fs)
unfolding with_further
further limit taken [] =
    record { count = 0; there = omega arith; is_run = omega arith; within = λ k. omega arith; longest = λ more k l. omega arith }
further limit taken (x ∷ xs) =
    let sum = taken + bytes_of x.width in
    by_test (leb sum limit)
    (λ t. rw t (goes_on limit taken x xs (leb-true sum limit t) (further limit sum xs)))
    (λ f. rw f (stops limit taken x xs (leb-false sum limit f)))

-- the first field, and further ones behind it
first_and_further : {len : ℕ} (limit : ℕ) (x : BankField) (xs : List BankField) → Further limit (bytes_of x.width) xs len → Longest limit (x ∷ xs) len
first_and_further {len} limit x xs r =
    record {
      count = suc r.count;
      first = omega arith;
      there = omega (arith, r.there);
      is_run = r.is_run;
      within = λ h. r.within (le_of_suc-le-suc h);
      longest = longer;
    }
  where
    longer : (more : ℕ) → suc r.count < more → more ≤ length (x ∷ xs) → limit < total (take more (x ∷ xs))
    longer zero k l = absurd (not-suc-le-zero k)
    longer (suc m) k l = r.longest m (le_of_suc-le-suc k) (le_of_suc-le-suc l)

module _ (end : ℕ) {x : BankField} where
  -- a field behind others starts behind their ends
  starts_behind : (from : ℕ) (xs : List BankField) → T (runs start_of end_of end from xs) → (i : ℕ) → slice_get xs i ≡ Some x → from ≤ x.offset
  starts_behind from [] t i e = no_element e
  starts_behind from (y ∷ ys) t zero e =
      let same : y ≡ x = cc in
      omega (arith, ap start_of same, here start_of end_of end from y ys t)
  starts_behind from (y ∷ ys) t (suc i) e =
      omega (arith, here start_of end_of end from y ys t, starts_behind (end_of y) ys (later start_of end_of end from y ys t) i e)

  -- the fields from its start on are those from its place on
  from_place : (from : ℕ) (xs : List BankField) → T (runs start_of end_of end from xs) → (i : ℕ) → slice_get xs i ≡ Some x
      → (rest : List BankField) × ((fields_from x.offset xs ≡ x ∷ rest) × (drop i xs ≡ x ∷ rest))
  unfolding fields_from
  from_place from [] t i e = no_element e
  from_place from (y ∷ ys) t zero e =
      let same : y ≡ x = cc in
      let all : ◌≡◌ {A = List BankField} (y ∷ ys) (x ∷ ys) = ap (λ (z : BankField). z ∷ ys) same in
      (ys, (rw (eq-eqb y.offset x.offset (ap start_of same)) all, all))
  from_place from (y ∷ ys) t (suc i) e =
      let behind = later start_of end_of end from y ys t in
      let passed : end_of y ≤ x.offset = starts_behind (end_of y) ys behind i e in
      let further = from_place (end_of y) ys behind i e in
      (further.0, (rw (ne_eqb y.offset x.offset (omega (arith, sized y.width))) further.1.0, further.1.1))

pub longest_run : LongestRun
unfolding chunk_len
longest_run bank remaining budget i x e h =
    let limit = min budget remaining in
    let from = from_place (map_end (map_at bank)) 0 (map_of bank) (every_map (map_at bank)) i e in
    rw (chunk_whole from.1.0 remaining limit h, from.1.1)
    (first_and_further limit x from.0 (further limit (bytes_of x.width) from.0))
