-- Laws of a place: whether its bytes are all present, what they are and what they say; and its theorems.
-- Assumes nothing.
use Rattle.std.proofs.lemmas.List.{drop-take}
use Rattle.std.specs.List.{list_all}
use Rattle.std.proofs.lemmas.Option.{same_Some}
use Rattle.std.specs.Prelude.{None, Some}
use mathlib.Core.Path.{◌≡◌, refl, sym, ap, subst, ◌∙◌}
use mathlib.Core.Bool.{Bool, true, false, ◌&&◌}
use mathlib.Core.List.{List, [], ◌∷◌}
use Prim.Native.Nat.{ℕ, ◌+◌, ◌-◌, ◌≤◌, ◌<◌, min, zero-le}
use native.Mathlib.Nat.{sub-zero}
use native.Mathlib.Omega.{arith}
use borrow.Author.Tests.{le-leb, lt-leb, leb-true, eqb-true, ne_eqb}
use lib.Dec.{eqb, leb}
use lib.ListN.{length, take, drop, length-take, length-drop}
use lib.Seq.{take-take, drop-drop}
use Rattle.bus.proofs.Tests.{by_test, no_yes}
use Rattle.bus.proofs.Lists.{no_element}
use Rattle.bus.specs.declared.ValueWidth.{ValueWidth}
use Rattle.bus.specs.Number.{number}
use Rattle.bus.specs.Width.{mask_of, tmask_of, max_valid_of}
use Rattle.bus.specs.Value.{classified}
use Rattle.bus.proofs.Width.{large_mask}
use Rattle.records.specs.Places.{field_at, is_there, all_ff, reading_of, SaysExactly, EveryReadingSaysExactly, PartReadsAsBank}

module _ (start : ℕ) (bytes : List ℕ) (o n : ℕ) where
  pub behind : start ≤ o → length bytes < o - start + n → field_at start bytes o n ≡ None
  behind h k = rw (le-leb start o h, lt-leb (o - start + n) (length bytes) k)

  pub whole : start ≤ o → o - start + n ≤ length bytes → field_at start bytes o n ≡ Some (take n (drop (o - start) bytes))
  whole h k = rw (le-leb start o h, le-leb (o - start + n) (length bytes) k)

pub every_ff : (bytes : List ℕ) → list_all (λ b. eqb b 0xFF) bytes ≡ all_ff bytes
unfolding all_ff
every_ff [] = refl
every_ff (b ∷ bs) = ap (λ (r : Bool). eqb b 0xFF && r) (every_ff bs)

-- what a field that is there says of its place, and of its bytes
pub record There (start : ℕ) (bytes : List ℕ) (o n : ℕ) : Type 0 where
  pub from : start ≤ o
  pub within : o - start + n ≤ length bytes
  pub is : field_at start bytes o n ≡ Some (take n (drop (o - start) bytes))

module _ (start : ℕ) (bytes : List ℕ) (o n : ℕ) where
  pub is_there_lem : is_there (field_at start bytes o n) ≡ true → There start bytes o n
  is_there_lem e =
      by_test (leb start o)
      (λ s.
      by_test (leb (o - start + n) (length bytes))
      (λ t.
      let h = leb-true start o s in
      let k = leb-true (o - start + n) (length bytes) t in
      record { from = h; within = k; is = whole start bytes o n h k })
      (λ t. absurd (no_yes (rw (s, t) at e))))
      (λ s. absurd (no_yes (rw s at e)))

  pub not_there : is_there (field_at start bytes o n) ≡ false → field_at start bytes o n ≡ None
  not_there e =
      by_test (leb start o)
      (λ s.
      by_test (leb (o - start + n) (length bytes))
      (λ t. absurd (no_yes (sym (rw (s, t) at e))))
      (λ t. rw (s, t)))
      (λ s. rw s)

-- a part of a part
part_of_part : (m k n : ℕ) (xs : List ℕ) → k + n ≤ m → take n (drop k (take m xs)) ≡ take n (drop k xs)
part_of_part m k n xs h =
    let longer : k + (m - k) ≡ m = omega arith in
    ap (take n) (ap (λ (j : ℕ). drop k (take j xs)) (sym longer) ∙ drop-take k (m - k) xs)
    ∙ take-take n (m - k) (drop k xs) (omega arith)

-- the bytes of a field that lies in a part of a bank
module _ (bank : List ℕ) (start m o n : ℕ) where
  abbrev part : List ℕ
  part = take m (drop start bank)

  long : length part ≡ min m (length bank - start)
  long = length-take m (drop start bank) ∙ ap (min m) (length-drop start bank)

  same_bytes : start ≤ o → o - start + n ≤ m → take n (drop (o - start) part) ≡ take n (drop (o - 0) bank)
  same_bytes h k =
      let back : start + (o - start) ≡ o = omega (arith, h) in
      part_of_part m (o - start) n (drop start bank) k ∙ rw (drop-drop (o - start) start bank, back, sub-zero)

  of_bank : 1 ≤ n → {bs : List ℕ} → field_at start part o n ≡ Some bs → field_at 0 bank o n ≡ Some bs
  of_bank some_bytes e =
      by_test (is_there (field_at start part o n))
      (λ t.
      let p = is_there_lem start part o n t in
      let bound = long in
      whole 0 bank o n zero-le (omega (arith, p.within, p.from, some_bytes))
      ∙ ap Some (sym (same_bytes p.from (omega (arith, p.within))))
      ∙ sym p.is
      ∙ e)
      (λ t. no_element (sym (not_there start part o n t) ∙ e))

  present : 1 ≤ n → {bs : List ℕ} → start ≤ o → o + n ≤ start + m → field_at 0 bank o n ≡ Some bs → field_at start part o n ≡ Some bs
  present some_bytes h k e =
      by_test (is_there (field_at 0 bank o n))
      (λ t.
      let p = is_there_lem 0 bank o n t in
      let bound = long in
      whole start part o n h (omega (arith, p.within, some_bytes))
      ∙ ap Some (same_bytes h (omega arith))
      ∙ sym p.is
      ∙ e)
      (λ t. no_element (sym (not_there 0 bank o n t) ∙ e))

pub part_reads_as_bank : PartReadsAsBank
part_reads_as_bank bank start m o n some_bytes =
    record { of_bank = of_bank bank start m o n some_bytes; present = present bank start m o n some_bytes }

-- what a number says, as the mask, as the one below it and as any other
module _ (w : ValueWidth) (n : ℕ) where
  apart : (k : ℕ) → n ≡ mask_of w - k → (j : ℕ) → k < j → j ≤ 2 → eqb n (mask_of w - j) ≡ false
  apart k e j h l =
      let large = large_mask w in
      ne_eqb n (mask_of w - j) (λ f. omega (arith, e, f, h, l, large))

  pub says : SaysExactly w n (reading_of w (classified w n))
  says =
      by_test (eqb n (mask_of w))
      (λ a.
      let is_mask : n ≡ mask_of w - 0 = eqb-true n (mask_of w) a ∙ sym (sub-zero (mask_of w)) in
      let t : eqb n (tmask_of w) ≡ false = apart 0 is_mask 1 (omega arith) (omega arith) in
      let v : eqb n (max_valid_of w) ≡ false = apart 0 is_mask 2 (omega arith) (omega arith) in
      record { value = rw a; not_implemented = rw a; unavailable = rw (a, t); saturated = rw (a, v) })
      (λ a.
      by_test (eqb n (tmask_of w))
      (λ b.
      let v : eqb n (max_valid_of w) ≡ false = apart 1 (eqb-true n (tmask_of w) b) 2 (omega arith) (omega arith) in
      record { value = rw (a, b); not_implemented = rw (a, b); unavailable = rw (a, b); saturated = rw (a, b, v) })
      (λ b. record { value = rw (a, b); not_implemented = rw (a, b); unavailable = rw (a, b); saturated = rw (a, b) }))

pub every_reading_says_exactly : EveryReadingSaysExactly
every_reading_says_exactly start bytes o w bs r f e =
    let read : Some (reading_of w (classified w (number bs))) ≡ Some r = rw f at e in
    subst (SaysExactly w (number bs)) (same_Some _ _ read) (says w (number bs))
