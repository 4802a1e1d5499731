-- The theorems on what a colour temperature and a distribution type say: each case has its numbers.
-- Assumes nothing.
use mathlib.Core.Path.{◌≡◌, refl, sym}
use mathlib.Core.Bool.{true, not}
use Prim.Native.Nat.{ℕ}
use borrow.Author.Tests.{eq-eqb, eqb-true, not-true}
use lib.Dec.{eqb}
use Rattle.bus.specs.declared.part251.LuminaireFormat.TheVariants.{V3}
use Rattle.bus.proofs.Tests.{first_true, second_true, by_test}
use Rattle.bank.specs.declared.luminaire_write.NumberRule.{NumberRule}
use Rattle.bank.specs.declared.part251.CctReading.{CctReading}
use Rattle.bank.specs.declared.part251.CctReading.TheVariants.{Kelvin, Part209Implemented}
use Rattle.bank.specs.Rules.{shows}
use Rattle.bank.specs.Readings.{cct_says, cct_of, EveryTemperatureSaid, EveryTypeKept}

said : (n : ℕ) → cct_says (cct_of n) n ≡ true
said n =
    let same = eq-eqb n n refl in
    by_test (shows NumberRule.Cct V3 n)
    (λ t. simp (t, same))
    (λ f. by_test (eqb n 65534) (λ t. simp (f, t)) (λ g. simp (f, g)))

only : (n : ℕ) (c : CctReading) → cct_says c n ≡ true → c ≡ cct_of n
only n (Kelvin k) e =
    let shown = first_true (shows NumberRule.Cct V3 k) (eqb n k) e in
    let same : n ≡ k = eqb-true n k (second_true (shows NumberRule.Cct V3 k) (eqb n k) e) in
    rw (same, shown, eq-eqb k k refl)
only n Part209Implemented e = rw (eqb-true n 65534 e)
only n CctReading.Unknown e =
    let hidden = not-true (shows NumberRule.Cct V3 n) (first_true (not (shows NumberRule.Cct V3 n)) (not (eqb n 65534)) e) in
    let other = not-true (eqb n 65534) (second_true (not (shows NumberRule.Cct V3 n)) (not (eqb n 65534)) e) in
    rw (hidden, other)

pub every_temperature_said : EveryTemperatureSaid
every_temperature_said n = record { said = said n; only = only n }

pub every_type_kept : EveryTypeKept
every_type_kept v n =
    by_test (shows NumberRule.LightDistributionType v n)
    (λ t.
    by_test (eqb n 0)
    (λ a. rw (t, a) (sym (eqb-true n 0 a)))
    (λ a.
    by_test (eqb n 253)
    (λ b. rw (t, a, b) (sym (eqb-true n 253 b)))
    (λ b. by_test (eqb n 254) (λ d. rw (t, a, b, d) (sym (eqb-true n 254 d))) (λ d. rw (t, a, b, d)))))
    (λ f. by_test (eqb n 255) (λ a. rw (f, a) (sym (eqb-true n 255 a))) (λ a. rw (f, a)))
