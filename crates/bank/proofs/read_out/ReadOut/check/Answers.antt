-- `bank::read_out::ReadOut::check` meets its contract, test by test.
-- Assumes nothing.
use borrow.Author.Tests.{lt-ltb, le-ltb, eq-eqb, ne_eqb}
use Rattle.bank.specs.Refusal.{first_of}
use Rattle.bank.proofs.read_out.ReadOut.check.Goals as goal
use Rattle.bank.proofs.read_out.ReadOut.check.Goals.{then-self-gt256-via-then-self-gt256, then-self-gt256-via-else-self-gt256+then-self}

pub returns-then-self-gt256 : goal.returns-then-self-gt256
unfolding first_of
returns-then-self-gt256 c =
    let r = c.args.self in
    elim c.then-self-gt256.branch [
      | then-self-gt256-via-then-self-gt256 w ↦ rw (lt-ltb 256 r.length w.if-self-gt256.true)
      | then-self-gt256-via-else-self-gt256+then-self w ↦ rw (le-ltb 256 r.length w.if-self-gt256.false, lt-ltb r.length r.next w.if-self.true)
    ]

pub returns-then-budget-eq0 : goal.returns-then-budget-eq0
unfolding first_of
returns-then-budget-eq0 c =
    let r = c.args.self in
    rw (le-ltb 256 r.length c.if-self-gt256.false, le-ltb r.length r.next c.if-self.false, eq-eqb _ 0 c.if-budget-eq0.true)

pub returns : goal.returns
unfolding first_of
returns c =
    let r = c.args.self in
    rw (le-ltb 256 r.length c.if-self-gt256.false, le-ltb r.length r.next c.if-self.false, ne_eqb _ 0 c.if-budget-eq0.false)
