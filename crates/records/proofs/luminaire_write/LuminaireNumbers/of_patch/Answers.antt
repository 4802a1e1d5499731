-- `records::luminaire_write::LuminaireNumbers::of_patch` meets its contract: the bit is none of the eleven, not set,
-- or set.
-- Assumes nothing.
use native.Mathlib.Omega.{arith}
use borrow.Author.Tests.{eq-eqb, ne_eqb}
use Rattle.records.proofs.Numbers.{number_over, number_unset, number_set}
use Rattle.records.proofs.luminaire_write.LuminaireNumbers.of_patch.Goals as goal
use Rattle.records.proofs.luminaire_write.LuminaireNumbers.of_patch.Goals.{then-bit-ge11-via-then-bit-ge11, then-bit-ge11-via-else-bit-ge11+then-self-bit-ne1}

pub returns-then-bit-ge11 : goal.returns-then-bit-ge11
returns-then-bit-ge11 c =
    let a = c.args in
    elim c.then-bit-ge11.branch [
      | then-bit-ge11-via-then-bit-ge11 w ↦ number_over a.self a.patch w.if-bit-ge11.true
      | then-bit-ge11-via-else-bit-ge11+then-self-bit-ne1 w ↦ number_unset a.self a.patch (ne_eqb _ _ w.if-self-bit-ne1.true)
    ]

pub returns : goal.returns
returns c =
    let a = c.args in
    rw c.number_values.ensures (number_set a.self a.patch (eq-eqb _ _ c.if-self-bit-ne1.false) (omega arith))
