-- The modes of a chunk's length: their bounds, and where each is `chunk_len`.
-- Assumes nothing.
use mathlib.Core.Path.{◌≡◌, refl}
use Prim.Native.Nat.{ℕ, ◌+◌, ◌≤◌, min, max}
use native.Mathlib.Omega.{arith}
use borrow.Author.Tests.{eqb-true, eqb-false, ltb-true, ltb-false, leb-true, leb-false, eq-eqb, ne_eqb}
use lib.Dec.{eqb, leb, ltb}
use Rattle.bus.proofs.Tests.{by_test}
use Rattle.bank.specs.declared.layout.ChunkMode.TheVariants.{Plain, LampCurrent}
use Rattle.bank.specs.Chunk.{chunk_len, lamp_whole, lamp_len, EveryModeBounded, SameElsewhere, Changed, ChangedExactly}
use Rattle.bank.proofs.Bounds.{Chunked, bounded, chunk_len_chunked, chunk_len_bounded}

-- the chunk in the place of one of n bytes
module _ (o remaining n : ℕ) where
  pub record Lamp (m : ℕ) : Type 0 where
    pub within : m ≤ max n remaining
    pub few : m ≤ max n 2
    pub some : min n 1 ≤ m
    pub changed : Changed o remaining n m
    -- it does not end between the two bytes, where it doesn't begin there and both remain
    pub apart : (o ≡ 0xC1 → ⊥) → (o ≡ 0xC0 → 2 ≤ remaining) → o + m ≡ 0xC1 → ⊥

  pub lamp : Lamp (lamp_whole o remaining n)
  unfolding lamp_whole
  lamp =
      by_test (eqb (o + n) 0xC1)
      (λ t.
      let end = eqb-true (o + n) 0xC1 t in
      by_test (ltb 1 n)
      (λ u. rw (t, u) (omega (arith, ltb-true 1 n u)))
      (λ u.
      let few = ltb-false 1 n u in
      by_test (eqb o 0xC0)
      (λ v.
      let at = eqb-true o 0xC0 v in
      by_test (leb 2 remaining)
      (λ w. rw (t, u, v, w) (omega (arith, leb-true 2 remaining w)))
      (λ w. rw (t, u, v, w) (omega (arith, leb-false 2 remaining w))))
      (λ v. rw (t, u, v) (omega (arith, eqb-false o 0xC0 v)))))
      (λ t. rw t (omega (arith, eqb-false (o + n) 0xC1 t)))

module _ (bank o remaining budget : ℕ) where
  abbrev plain : ℕ
  plain = chunk_len bank o remaining budget

  -- of bank 1
  pub lamp_here : bank ≡ 1 → lamp_len bank o remaining budget ≡ lamp_whole o remaining plain
  unfolding lamp_len
  lamp_here h = rw (eq-eqb bank 1 h)

  lamp_elsewhere : (bank ≡ 1 → ⊥) → lamp_len bank o remaining budget ≡ plain
  unfolding lamp_len
  lamp_elsewhere h = rw (ne_eqb bank 1 h)

  -- what holds of both has the chunk of any bank
  of_any_bank : (P : ℕ → Type 0) → P plain → P (lamp_whole o remaining plain) → P (lamp_len bank o remaining budget)
  of_any_bank P p q = by_test (eqb bank 1) (λ t. rw (lamp_here (eqb-true bank 1 t)) q) (λ t. rw (lamp_elsewhere (eqb-false bank 1 t)) p)

  lamp_chunked : Chunked remaining budget (lamp_len bank o remaining budget)
  lamp_chunked =
      let of_plain = chunk_len_chunked bank o remaining budget in
      of_any_bank (Chunked remaining budget) of_plain (omega (arith, lamp o remaining plain, of_plain))

pub every_mode_bounded : EveryModeBounded
every_mode_bounded Plain = chunk_len_bounded
every_mode_bounded LampCurrent = bounded lamp_chunked

pub same_elsewhere : SameElsewhere
same_elsewhere bank o remaining budget = record { plain = refl; other_bank = lamp_elsewhere bank o remaining budget }

pub changed_exactly : ChangedExactly
changed_exactly o remaining budget = rw (lamp_here 1 o remaining budget refl) (lamp o remaining (chunk_len 1 o remaining budget)).changed
