-- `bus::layout::map_of` meets its contract, bank number by bank number.
-- Assumes nothing.
use Rattle.std.proofs.Common.{◌≡◌, arith}
use mathlib.Core.Logic.{inl, inr}
use Rattle.bus.specs.Maps.{map_at}
use Rattle.bus.proofs.Maps.{energy_bank_lem, no_map_low, no_map_high}
use Rattle.bus.proofs.layout.map_of.Goals as goal

pub returns-then-bank-eq-BANK_LUMINAIRE_INFO : goal.returns-then-bank-eq-BANK_LUMINAIRE_INFO
unfolding map_at
returns-then-bank-eq-BANK_LUMINAIRE_INFO c = rw c.if-bank-eq-BANK_LUMINAIRE_INFO.true

pub returns-then-bank-lt-BANK_ACTIVE_ENERGY : goal.returns-then-bank-lt-BANK_ACTIVE_ENERGY
returns-then-bank-lt-BANK_ACTIVE_ENERGY c =
    elim c.then-bank-lt-BANK_ACTIVE_ENERGY.either [
      | inl low ↦ no_map_low _ c.if-bank-eq-BANK_LUMINAIRE_INFO.false low
      | inr high ↦ no_map_high _ high.1
    ]

pub returns-in-205 : goal.returns-in-205
unfolding map_at
returns-in-205 c = rw c.in-205.is

pub returns-in-206 : goal.returns-in-206
unfolding map_at
returns-in-206 c = rw c.in-206.is

pub returns-in-207 : goal.returns-in-207
unfolding map_at
returns-in-207 c = rw c.in-207.is

pub returns-in_default : goal.returns-in_default
returns-in_default c =
    let not_205 : c.args.bank ≡ 205 → ⊥ = λ e. omega arith in
    let not_206 : c.args.bank ≡ 206 → ⊥ = λ e. omega arith in
    let not_207 : c.args.bank ≡ 207 → ⊥ = λ e. omega arith in
    energy_bank_lem _ c.if-bank-lt-BANK_ACTIVE_ENERGY.false c.if-bank-gt-BANK_LUMINAIRE_MAINTENANCE.false not_205 not_206 not_207
