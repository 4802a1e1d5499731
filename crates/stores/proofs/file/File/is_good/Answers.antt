-- `stores::file::File::is_good` meets its contract, test by test.
-- Assumes nothing.
use mathlib.Core.Path.{◌≡◌, refl}
use mathlib.Core.Bool.{not, ◌||◌}
use Prim.Native.Nat.{◌+◌}
use native.Mathlib.Omega.{arith}
use borrow.Author.Tests.{eq-eqb, ne_eqb}
use lib.Dec.{eqb}
use lib.ListN.{length}
use Rattle.stores.specs.File.{is_good}
use Rattle.stores.proofs.Heads.{good_is}
use Rattle.stores.proofs.file.File.is_good.Goals as goal
use Rattle.stores.proofs.file.File.is_good.Goals.{After-number-2}

pub returns-then-not-is_marked : goal.returns-then-not-is_marked
returns-then-not-is_marked c =
    let f = c.args.self.bytes.now in
    rw (good_is f c.is_marked.ensures refl refl refl, c.if-not-is_marked.true)

pub returns-then-number-ne-VERSION : goal.returns-then-number-ne-VERSION
returns-then-number-ne-VERSION c =
    let f = c.args.self.bytes.now in
    rw (
      good_is f c.is_marked.ensures c.number.ensures.value refl refl,
      c.if-not-is_marked.false,
      ne_eqb _ _ c.if-number-ne-VERSION.true,
    )

pub returns-then-self-text_len : goal.returns-then-self-text_len
returns-then-self-text_len c =
    let f = c.args.self.bytes.now in
    let other : length f ≡ 31 + c.number-text_len.result → ⊥ = λ e. omega arith in
    rw (
      good_is f c.is_marked.ensures c.number.ensures.value c.number-text_len.ensures.value refl,
      c.if-not-is_marked.false,
      eq-eqb _ _ c.if-number-ne-VERSION.false,
      ne_eqb (length f) (31 + c.number-text_len.result) other,
    )

-- all but the last test passed
passed : (c : After-number-2) → is_good c.args.self.bytes.now ≡ (not (eqb c.number-2.result 0xFF) || eqb c.number-text_len.result 0)
passed c =
    let f = c.args.self.bytes.now in
    rw (
      good_is f c.is_marked.ensures c.number.ensures.value c.number-text_len.ensures.value c.number-2.ensures.value,
      c.if-not-is_marked.false,
      eq-eqb _ _ c.if-number-ne-VERSION.false,
      eq-eqb (length f) (31 + c.number-text_len.result) (omega (arith, c.if-self-text_len.false)),
    )

pub returns-then-number-ne-NO_TEXT : goal.returns-then-number-ne-NO_TEXT
returns-then-number-ne-NO_TEXT c = rw (passed (goal.at.returns-then-number-ne-NO_TEXT c).After-number-2, ne_eqb _ _ c.if-number-ne-NO_TEXT.true)

pub returns-else-number-ne-NO_TEXT : goal.returns-else-number-ne-NO_TEXT
returns-else-number-ne-NO_TEXT c = rw (passed (goal.at.returns-else-number-ne-NO_TEXT c).After-number-2, eq-eqb _ _ c.if-number-ne-NO_TEXT.false)
