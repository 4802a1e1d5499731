-- `records::luminaire_write::check_number` meets its contract: the checks of `check_writable`, then one more.
-- Assumes nothing.
use Rattle.std.proofs.Common.{sym, ◌∙◌}
use Rattle.std.proofs.lemmas.Result.{err_from_is_err_and}
use Rattle.bank.specs.declared.refusal.Refusal.TheVariants.{NumberNotAccepted}
use Rattle.records.proofs.Refusals.{alone_passed, alone_refused, refused_behind, passed_behind, rejects_is}
use Rattle.records.proofs.luminaire_write.check_number.Goals as goal

pub returns-in_err-format : goal.returns-in_err-format
returns-in_err-format c =
    let a = c.args in
    let p = err_from_is_err_and c.from_residual.result c.from_residual.ensures.1 in
    rw (p.1, p.2, refused_behind a.layout a.field _ (sym c.check_writable.ensures ∙ c.in_err-format.was))

pub returns-then-not-accepts_number : goal.returns-then-not-accepts_number
returns-then-not-accepts_number c =
    let a = c.args in
    let ok = sym c.check_writable.ensures ∙ c.in_ok-format.was in
    rw (passed_behind a.layout a.field _ ok ∙ alone_refused NumberNotAccepted (rejects_is a.layout a.field a.value ok (sym c.accepts_number.ensures ∙ c.if-not-accepts_number.true)))

pub returns : goal.returns
returns c =
    let a = c.args in
    let ok = sym c.check_writable.ensures ∙ c.in_ok-format.was in
    rw (passed_behind a.layout a.field _ ok ∙ alone_passed NumberNotAccepted (rejects_is a.layout a.field a.value ok (sym c.accepts_number.ensures ∙ c.if-not-accepts_number.false)))
