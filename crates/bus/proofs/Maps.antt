-- Laws of the maps: which map a bank has, and that the fields of each lie one behind the other.
-- Assumes nothing.
use Rattle.std.specs.Prelude.{None}
use mathlib.Core.Path.{◌≡◌, refl, sym, ap}
use mathlib.Core.Bool.{true, false, and-false}
use mathlib.Core.List.{List, [], ◌∷◌}
use Prim.Native.Nat.{ℕ, ◌≤◌, ◌<◌, zero-le}
use native.Mathlib.Nat.{le-add_right}
use native.Mathlib.Omega.{arith}
use lib.Dec.{T, eqb, ltb, eqb→eq}
use borrow.Author.Tests.{le-leb, lt-leb, le-ltb, lt-ltb, ltb-true, ltb-false, eqb-false, ne_eqb}
use Rattle.bus.specs.declared.layout.BankField.{BankField}
use Rattle.bus.specs.declared.layout.BankMap.{BankMap}
use Rattle.bus.specs.declared.layout.BankMap.TheVariants.{LuminaireInfo, Energy, GearDiagnostics, SourceDiagnostics, Maintenance, Missing}
use Rattle.bus.specs.Width.{bytes_of}
use Rattle.bus.specs.Maps.{map_at, map_of, fixed_last, fields, map_end, start_of, end_of, holds, first_with, EveryMapContiguous, EveryOffsetFound}
use Rattle.bus.proofs.Tests.{by_test}
use Rattle.bus.proofs.Lists.{no_element, first_passes}
use Rattle.bus.proofs.Contiguous.{runs, here, later, reaches, contiguous}

-- which map a bank has, where its number is no single one
pub energy_bank_lem : (bank : ℕ) → 202 ≤ bank → bank ≤ 207 → (bank ≡ 205 → ⊥) → (bank ≡ 206 → ⊥) → (bank ≡ 207 → ⊥) → Energy ≡ map_at bank
unfolding map_at
energy_bank_lem bank h k h₅ h₆ h₇ = simp (ne_eqb bank 1 (omega arith), le-leb 202 bank h, le-leb bank 204 (omega arith))

pub no_map_low : (bank : ℕ) → (bank ≡ 1 → ⊥) → bank < 202 → Missing ≡ map_at bank
unfolding map_at
no_map_low bank h k =
    simp (ne_eqb bank 1 h, lt-leb 202 bank k, ne_eqb bank 205 (omega arith), ne_eqb bank 206 (omega arith), ne_eqb bank 207 (omega arith))

pub no_map_high : (bank : ℕ) → 207 < bank → Missing ≡ map_at bank
unfolding map_at
no_map_high bank k =
    simp (ne_eqb bank 1 (omega arith), le-leb 202 bank (omega arith), lt-leb bank 204 (omega arith), ne_eqb bank 205 (omega arith), ne_eqb bank 206 (omega arith), ne_eqb bank 207 (omega arith))

-- no other bank than those six has a fixed length
pub no_fixed_last : (bank : ℕ) → (202 ≤ bank → bank ≤ 207 → ⊥) → None ≡ fixed_last (map_at bank)
unfolding map_at
no_fixed_last bank other =
    by_test (eqb bank 1)
    (λ is_1. rw is_1)
    (λ not_1.
    by_test (ltb bank 202)
    (λ low. ap fixed_last (no_map_low bank (eqb-false bank 1 not_1) (ltb-true bank 202 low)))
    (λ high. ap fixed_last (no_map_high bank (omega (arith, ltb-false bank 202 high, λ (k : bank ≤ 207). other (ltb-false bank 202 high) k)))))

-- the test, for each map
pub every_map : (m : BankMap) → T (runs start_of end_of (map_end m) 0 (fields m))
every_map LuminaireInfo = tt
every_map Energy = tt
every_map GearDiagnostics = tt
every_map SourceDiagnostics = tt
every_map Maintenance = tt
every_map Missing = tt

-- which bytes a field holds
held : (o : ℕ) (x : BankField) → x.offset ≤ o → o < end_of x → holds o x ≡ true
held o x h k = rw (le-leb x.offset o h, lt-ltb o (end_of x) k)

not_held : (o : ℕ) (x : BankField) → end_of x ≤ o → holds o x ≡ false
not_held o x h = rw (le-ltb o (end_of x) h, and-false)

-- a search along the fields from offset `from` on
module _ (end : ℕ) where
  none_behind : (o from : ℕ) (xs : List BankField) → T (runs start_of end_of end from xs) → end ≤ o → first_with (holds o) xs ≡ None
  unfolding first_with
  none_behind o from [] t h = refl
  none_behind o from (x ∷ xs) t h =
      let rest = later start_of end_of end from x xs t in
      let ahead = reaches start_of end_of end (λ (y : BankField). le-add_right y.offset (bytes_of y.width)) (end_of x) xs rest in
      rw (not_held o x (omega arith)) (none_behind o (end_of x) xs rest h)

  none_only_behind : (o from : ℕ) (xs : List BankField) → T (runs start_of end_of end from xs) → from ≤ o → first_with (holds o) xs ≡ None → end ≤ o
  unfolding first_with
  none_only_behind o from [] t k e = omega (arith, eqb→eq from end t)
  none_only_behind o from (x ∷ xs) t k e =
      by_test (ltb o (end_of x))
      (λ l.
      let starts_here : x.offset ≤ o = omega (arith, here start_of end_of end from x xs t) in
      no_element (sym (rw (held o x starts_here (ltb-true o (end_of x) l)) at e)))
      (λ l.
      let past : end_of x ≤ o = ltb-false o (end_of x) l in
      none_only_behind o (end_of x) xs (later start_of end_of end from x xs t) past (rw (not_held o x past) at e))

pub every_map_contiguous : EveryMapContiguous
every_map_contiguous bank = contiguous start_of end_of (map_end (map_at bank)) 0 (map_of bank) (every_map (map_at bank))

pub every_offset_found : EveryOffsetFound
every_offset_found bank o =
    let t : T (runs start_of end_of (map_end (map_at bank)) 0 (map_of bank)) = every_map (map_at bank) in
    record {
      holds_it = λ {x} e. first_passes (holds o) (map_of bank) e;
      none_behind = λ h. none_behind (map_end (map_at bank)) o 0 (map_of bank) t h;
      none_only_behind = λ e. none_only_behind (map_end (map_at bank)) o 0 (map_of bank) t zero-le e;
    }
