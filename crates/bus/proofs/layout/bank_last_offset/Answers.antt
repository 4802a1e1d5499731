-- `bus::layout::bank_last_offset` meets its contract: no other bank than those six has a fixed length.
-- Assumes nothing.
use Rattle.std.proofs.Common.{◌≡◌, arith}
use Rattle.bus.proofs.Maps.{no_fixed_last}
use Rattle.bus.proofs.layout.bank_last_offset.Goals as goal

pub returns-in_default : goal.returns-in_default
returns-in_default c =
    no_fixed_last c.args.bank (λ from to.
    let not_202 : c.args.bank ≡ 202 → ⊥ = λ e. omega arith in
    omega arith)
