-- In the mode for it no chunk of bank 1 begins or ends between the two bytes of the lamp current.
-- Assumes nothing.
use Prim.Native.Nat.{ℕ, ◌-◌, ◌≤◌}
use mathlib.Core.Path.{◌≡◌, refl}
use native.Mathlib.Omega.{arith}
use Rattle.bank.specs.declared.layout.ChunkMode.TheVariants.{LampCurrent}
use Rattle.bank.specs.Chunk.{chunk_len, chunk_in}
use Rattle.bank.specs.Kept.{Kept}
use Rattle.bank.specs.LampCurrent.{LampCurrentWhole}
use Rattle.bank.proofs.Modes.{lamp, lamp_here, every_mode_bounded}
use Rattle.bank.proofs.Kept.{every_kept_property}

abbrev NotBetween : ℕ → Type 0
NotBetween o = o ≡ 0xC1 → ⊥

never_between : (len : ℕ) → 0xC2 ≤ len → Kept (chunk_in LampCurrent) 1 len NotBetween
never_between len holds =
    record {
      first = λ e. omega arith;
      next = λ o budget h k.
          rw (lamp_here 1 o (len - o) budget refl) ((lamp o (len - o) (chunk_len 1 o (len - o) budget)).apart k (λ e. omega arith));
    }

pub lamp_current_whole : LampCurrentWhole
lamp_current_whole len buffer calls holds =
    let all = every_kept_property (chunk_in LampCurrent) (every_mode_bounded LampCurrent) 1 len NotBetween (never_between len holds) LampCurrent buffer calls in
    record {
      not_between = λ before bytes behind e. let both = all.each before bytes behind e in record { begins = both.0; ends = both.1 };
      in_one = all.in_one 0xC0 2 (λ p k h. omega arith);
    }
