-- `records::bus_unit::BusUnitConfiguration::from_byte` meets its contract, range by range.
-- Assumes nothing.
use Rattle.std.specs.Prelude.{None}
use mathlib.Core.Path.{◌≡◌}
use Prim.Native.Nat.{ℕ}
use native.Mathlib.Omega.{arith}
use borrow.Author.Tests.{ne_eqb, le-leb, lt-leb}
use Rattle.bus.specs.Maps.{first_with}
use Rattle.records.specs.BusUnit.{from_byte, emergency}
use Rattle.records.proofs.bus_unit.BusUnitConfiguration.from_byte.Goals as goal

-- beside the four types of emergency gear
no_gear : (raw : ℕ) → (raw ≡ 9 → ⊥) → (raw ≡ 10 → ⊥) → (raw ≡ 11 → ⊥) → (raw ≡ 12 → ⊥) → emergency raw ≡ None
unfolding emergency first_with
no_gear raw a b c d = rw (ne_eqb raw 9 a, ne_eqb raw 10 b, ne_eqb raw 11 c, ne_eqb raw 12 d)

pub returns-in-9 : goal.returns-in-9
unfolding from_byte emergency first_with
returns-in-9 c = rw c.in-9.is

pub returns-in-10 : goal.returns-in-10
unfolding from_byte emergency first_with
returns-in-10 c = rw c.in-10.is

pub returns-in-11 : goal.returns-in-11
unfolding from_byte emergency first_with
returns-in-11 c = rw c.in-11.is

pub returns-in-12 : goal.returns-in-12
unfolding from_byte emergency first_with
returns-in-12 c = rw c.in-12.is

pub returns-in-0-to-8 : goal.returns-in-0-to-8
unfolding from_byte
returns-in-0-to-8 c = rw (no_gear c.args.raw (λ e. omega arith) (λ e. omega arith) (λ e. omega arith) (λ e. omega arith), le-leb c.args.raw 8 (omega arith))

pub returns-in-13-to-191 : goal.returns-in-13-to-191
unfolding from_byte
returns-in-13-to-191 c = rw (no_gear c.args.raw (λ e. omega arith) (λ e. omega arith) (λ e. omega arith) (λ e. omega arith), lt-leb c.args.raw 8 (omega arith), le-leb c.args.raw 191 (omega arith))

pub returns-in_default : goal.returns-in_default
unfolding from_byte
returns-in_default c = rw (no_gear c.args.raw (λ e. omega arith) (λ e. omega arith) (λ e. omega arith) (λ e. omega arith), lt-leb c.args.raw 8 (omega arith), lt-leb c.args.raw 191 (omega arith))
