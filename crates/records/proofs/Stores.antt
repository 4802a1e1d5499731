-- Laws of stores, the offsets and the values of a stage.
-- Assumes nothing.
use mathlib.Core.Path.{◌≡◌, sym, ap, ◌∙◌}
use mathlib.Core.List.{map, List, [], ◌∷◌, ◌++◌}
use Prim.Native.Nat.{ℕ, zero, suc, ◌+◌, ◌≤◌, ◌<◌}
use native.Mathlib.Nat.{add-zero, add-suc, suc-add, le_of_suc-le-suc, not-suc-le-zero}
use native.Mathlib.Numerals.{add-one}
use native.Mathlib.Omega.{arith}
use lib.ListN.{set, drop, length, take, get_or, length-map}
use Rattle.records.specs.Writes.{Store, single_bytes, offsets_of, values_of}
use Rattle.bus.proofs.Lists.{laid_suc}
use Rattle.std.proofs.lemmas.List.{get_or-map}

-- as many offsets as stores, and as many values
pub offsets_count : (ss : List Store) → length (offsets_of ss) ≡ length ss
offsets_count ss = length-map ss (λ (s : Store). s.offset)

pub values_count : (ss : List Store) → length (values_of ss) ≡ length ss
values_count ss = length-map ss (λ (s : Store). s.value)

-- the stores of one byte more of a stage
single_suc : (o : ℕ) (bs : List ℕ) (i : ℕ) → i < length bs
    → single_bytes o (take (suc i) bs) ≡ single_bytes o (take i bs) ++ (record { offset = o + i; value = get_or bs i 0 } ∷ [])
single_suc o [] i h = absurd (not-suc-le-zero h)
single_suc o (b ∷ bs) zero h = rw add-zero
single_suc o (b ∷ bs) (suc i) h = ap (λ (r : List Store). record { offset = o; value = b } ∷ r) (single_suc (suc o) bs i (le_of_suc-le-suc h)) ∙ rw (suc-add, add-suc)

pub single_next : (o : ℕ) (bs : List ℕ) (i : ℕ) → i < length bs
    → single_bytes o (take (i + 1) bs) ≡ single_bytes o (take i bs) ++ (record { offset = o + i; value = get_or bs i 0 } ∷ [])
single_next o bs i h = rw add-one (single_suc o bs i h)

-- one more store laid into the offsets, or into the values
module _ (member : Store → ℕ) (ss : List Store) (out : List ℕ) where
  pub member_next : (i : ℕ) (d : Store) → i < length ss → length ss ≤ length out
      → set (take i (map member ss) ++ drop i out) i (member (get_or ss i d)) ≡ take (i + 1) (map member ss) ++ drop (i + 1) out
  member_next i d h k =
      ap (set (take i (map member ss) ++ drop i out) i) (sym (get_or-map member ss i d 0 h))
      ∙ laid_suc (map member ss) out i 0 (rw length-map h) (omega arith)
