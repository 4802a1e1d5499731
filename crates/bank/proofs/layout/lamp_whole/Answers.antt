-- `bank::layout::lamp_whole` meets its contract, test by test.
-- Assumes nothing.
use borrow.Author.Tests.{lt-ltb, le-ltb, eq-eqb, ne_eqb, le-leb, lt-leb}
use Rattle.bank.specs.Chunk.{lamp_whole}
use Rattle.bank.proofs.layout.lamp_whole.Goals as goal
use Rattle.bank.proofs.layout.lamp_whole.Goals.{else-offset-eq-LAMP_CURRENT-via-then-offset-eq-LAMP_CURRENT+else-remaining-ge-LAMP_CURRENT_LEN, else-offset-eq-LAMP_CURRENT-via-else-offset-eq-LAMP_CURRENT}

pub returns-then-offset-len : goal.returns-then-offset-len
unfolding lamp_whole
returns-then-offset-len c = rw (ne_eqb _ 0xC1 c.if-offset-len.true)

pub returns-then-len-gt1 : goal.returns-then-len-gt1
unfolding lamp_whole
returns-then-len-gt1 c = rw (eq-eqb _ 0xC1 c.if-offset-len.false, lt-ltb 1 c.args.len c.if-len-gt1.true)

pub returns-then-remaining-ge-LAMP_CURRENT_LEN : goal.returns-then-remaining-ge-LAMP_CURRENT_LEN
unfolding lamp_whole
returns-then-remaining-ge-LAMP_CURRENT_LEN c =
    rw (eq-eqb _ 0xC1 c.if-offset-len.false, le-ltb 1 c.args.len c.if-len-gt1.false, eq-eqb _ 0xC0 c.if-offset-eq-LAMP_CURRENT.true, le-leb 2 _ c.if-remaining-ge-LAMP_CURRENT_LEN.true)

pub returns-else-offset-eq-LAMP_CURRENT : goal.returns-else-offset-eq-LAMP_CURRENT
unfolding lamp_whole
returns-else-offset-eq-LAMP_CURRENT c =
    elim c.else-offset-eq-LAMP_CURRENT.branch [
      | else-offset-eq-LAMP_CURRENT-via-then-offset-eq-LAMP_CURRENT+else-remaining-ge-LAMP_CURRENT_LEN w ↦
          rw (eq-eqb _ 0xC1 c.if-offset-len.false, le-ltb 1 c.args.len c.if-len-gt1.false, eq-eqb _ 0xC0 w.if-offset-eq-LAMP_CURRENT.true, lt-leb 2 _ w.if-remaining-ge-LAMP_CURRENT_LEN.false)
      | else-offset-eq-LAMP_CURRENT-via-else-offset-eq-LAMP_CURRENT w ↦
          rw (eq-eqb _ 0xC1 c.if-offset-len.false, le-ltb 1 c.args.len c.if-len-gt1.false, ne_eqb _ 0xC0 w.if-offset-eq-LAMP_CURRENT.false)
    ]
