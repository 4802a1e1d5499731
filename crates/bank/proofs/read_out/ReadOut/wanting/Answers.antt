-- `bank::read_out::ReadOut::wanting` meets its contract, by what was tested.
-- Assumes nothing.
use Rattle.std.proofs.Common.{◌≡◌, sym, ap, ◌∙◌, ℕ, None, Ok}
use Rattle.std.proofs.lemmas.Result.{err_from_is_err_and}
use Rattle.bank.specs.declared.read_out.Wanted.TheVariants.{Chunk}
use Rattle.bank.specs.Refusal.{first_of}
use Rattle.bank.specs.ReadOut.{want_checks, wanting}
use Rattle.bank.proofs.Checks.{told_err, told_ok}
use Rattle.bank.proofs.Reading.{valid}
use Rattle.bank.proofs.read_out.ReadOut.wanting.Goals as goal
use Rattle.bank.proofs.read_out.ReadOut.wanting.Goals.{In_ok-check}

-- the read-out and the budget are not refused
sound : (c : In_ok-check) → (let a = c.args in first_of (want_checks a.self a.budget) ≡ None)
sound c = told_ok _ (sym c.check.ensures ∙ c.in_ok-check.was)

pub returns-in_err-check : goal.returns-in_err-check
unfolding wanting
returns-in_err-check c =
    let a = c.args in
    let p = err_from_is_err_and c.from_residual.result c.from_residual.ensures.1 in
    rw (p.1, p.2, told_err (want_checks a.self a.budget) (sym c.check.ensures ∙ c.in_err-check.was))

pub returns-then-done : goal.returns-then-done
unfolding wanting
returns-then-done c = rw (sound (goal.at.returns-then-done c).In_ok-check, sym c.done.ensures ∙ c.if-done.true)

pub overflow_sub-left : goal.overflow_sub-left
overflow_sub-left c =
    let a = c.args in
    (valid a.self a.budget (sound (goal.at.overflow_sub-left c).In_ok-check)).ahead

pub returns : goal.returns
unfolding wanting
returns c = rw (sound (goal.at.returns c).In_ok-check, sym c.done.ensures ∙ c.if-done.false) (ap (λ (n : ℕ). Ok (Chunk n)) c.chunk_len-len.ensures)
