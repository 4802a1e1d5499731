-- Laws of the implemented parts: bit by bit they come one behind the other.
-- Assumes nothing.
use mathlib.Core.Path.{◌≡◌, sym, ap, ◌∙◌}
use mathlib.Core.List.{List, [], ◌∷◌, ◌++◌, append-nil}
use Prim.Native.Nat.{ℕ, zero, suc, ◌+◌, ◌/◌, ◌%◌, ◌^◌, ◌≤◌}
use native.Mathlib.Numerals.{add-one}
use native.Mathlib.Omega.{arith}
use borrow.Author.Tests.{eq-eqb, ne_eqb}
use lib.ListN.{length, set, length-append}
use Rattle.bus.specs.Value.{laid_into}
use Rattle.bus.proofs.Lists.{laid_more}
use Rattle.records.specs.BusUnit.{part_of}

-- the parts of the bits below one
abbrev pub below : ℕ → ℕ → List ℕ
below raw zero = []
below raw (suc bit) = below raw bit ++ part_of raw bit

-- they are stored in a slice, as many as it holds, and counted
pub record Stored (raw : ℕ) (out₀ out : List ℕ) (count bit : ℕ) : Type 0 where
  pub counted : count ≡ length (below raw bit)
  pub laid : out ≡ laid_into (below raw bit) out₀
  pub few : count ≤ bit

module _ {raw : ℕ} {out₀ out : List ℕ} {count bit : ℕ} (s : Stored raw out₀ out count bit) where
  pub set_bit : {out' : List ℕ} {count' : ℕ} → raw / 2 ^ bit % 2 ≡ 1 → out' ≡ set out count (150 + bit) → count' ≡ count + 1 → Stored raw out₀ out' count' (bit + 1)
  set_bit e o n =
      let x = 150 + bit in
      let more : below raw (bit + 1) ≡ below raw bit ++ (x ∷ []) = rw (add-one, eq-eqb (raw / 2 ^ bit % 2) 1 e) in
      record {
        counted = n ∙ rw (more, length-append, s.counted);
        laid =
            o
            ∙ ap (λ (r : List ℕ). set r count x) s.laid
            ∙ ap (λ (k : ℕ). set (laid_into (below raw bit) out₀) k x) s.counted
            ∙ laid_more (below raw bit) out₀ x
            ∙ ap (λ (ps : List ℕ). laid_into ps out₀) (sym more);
        few = omega (arith, n, s.few);
      }

  pub clear_bit : {out' : List ℕ} {count' : ℕ} → (raw / 2 ^ bit % 2 ≡ 1 → ⊥) → out' ≡ out → count' ≡ count → Stored raw out₀ out' count' (bit + 1)
  clear_bit ne o n =
      let same : below raw (bit + 1) ≡ below raw bit = rw (add-one, ne_eqb (raw / 2 ^ bit % 2) 1 ne) (append-nil (below raw bit)) in
      record {
        counted = n ∙ s.counted ∙ ap length (sym same);
        laid = o ∙ s.laid ∙ ap (λ (ps : List ℕ). laid_into ps out₀) (sym same);
        few = omega (arith, n, s.few);
      }
