-- `records::identity::IdentityRead::of_window` meets its contract, by the three parts of the window.
-- Assumes nothing.
use Rattle.std.specs.Prelude.{Some}
use mathlib.Core.Path.{◌≡◌, sym, ◌∙◌}
use native.Mathlib.Omega.{arith}
use lib.ListN.{length-take, length-drop}
use Rattle.bus.proofs.Number.{number_few}
use Rattle.records.specs.Places.{unless_ff}
use Rattle.records.specs.Identity.{identity_of, known_if, of_window}
use Rattle.records.proofs.Window.{in_window, one_byte}
use Rattle.records.proofs.identity.IdentityRead.of_window.Goals as goal
use Rattle.records.proofs.identity.IdentityRead.of_window.Goals.{After-within-index, then-is_mask-via-then-is_mask, then-is_mask-via-else-is_mask+then-is_mask-2, then-is_mask-via-else-is_mask+else-is_mask-2+then-is_mask-3}

-- what the window says is what its three parts say
parts : (c : After-within-index)
    → (of_window c.args.window.now ≡ known_if (identity_of (unless_ff (Some c.within-gtin.result.now)) (unless_ff (Some c.within-number.result.now)) (unless_ff (Some c.within-index.result.now))))
parts c =
    in_window c.args.window.now (omega arith)
    c.within-gtin.ensures c.within-number.ensures c.within-index.ensures

pub returns-then-is_mask : goal.returns-then-is_mask
returns-then-is_mask c =
    let all = parts (goal.at.returns-then-is_mask c).After-within-index in
    elim c.then-is_mask.branch [
      | then-is_mask-via-then-is_mask w ↦ rw (all, sym c.is_mask.ensures ∙ w.if-is_mask.true)
      | then-is_mask-via-else-is_mask+then-is_mask-2 w ↦
          rw (all, sym c.is_mask.ensures ∙ w.if-is_mask.false, sym w.is_mask-else-is_mask.ensures ∙ w.if-is_mask-2.true)
      | then-is_mask-via-else-is_mask+else-is_mask-2+then-is_mask-3 w ↦
          rw (
            all,
            sym c.is_mask.ensures ∙ w.if-is_mask.false,
            sym w.is_mask-else-is_mask.ensures ∙ w.if-is_mask-2.false,
            sym w.is_mask-else-is_mask-2.ensures ∙ w.if-is_mask-3.true,
          )
    ]

pub bounds-index-0 : goal.bounds-index-0
bounds-index-0 c = rw (c.within-index.ensures, length-take, length-drop) (omega arith)

pub returns : goal.returns
returns c =
    let gtin = number_few c.within-gtin.result.now (rw (c.within-gtin.ensures, length-take) (omega arith)) in
    let number = number_few c.within-number.result.now (rw (c.within-number.ensures, length-take) (omega arith)) in
    let index = one_byte c.args.window.now 23 (omega arith) c.within-index.ensures in
    rw (
      parts (goal.at.returns c).After-within-index,
      sym c.is_mask.ensures ∙ c.if-is_mask.false,
      sym c.is_mask-else-is_mask.ensures ∙ c.if-is_mask-2.false,
      sym c.is_mask-else-is_mask-2.ensures ∙ c.if-is_mask-3.false,
    )
    (rw (c.number_of.ensures.value ∙ gtin, c.number_of-2.ensures.value ∙ number, index))
