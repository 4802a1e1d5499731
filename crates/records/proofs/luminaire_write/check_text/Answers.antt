-- `records::luminaire_write::check_text` meets its contract: the checks of `check_writable`, then those of the text.
-- Assumes nothing.
use Rattle.std.proofs.Common.{sym, ◌∙◌}
use Rattle.std.proofs.lemmas.Result.{err_from_is_err_and}
use Rattle.bank.specs.Writable.{text_checks}
use Rattle.records.proofs.Refusals.{refused_behind, passed_behind}
use Rattle.records.proofs.luminaire_write.check_text.Goals as goal

pub returns-in_err-check_writable : goal.returns-in_err-check_writable
returns-in_err-check_writable c =
    let a = c.args in
    let p = err_from_is_err_and c.from_residual.result c.from_residual.ensures.1 in
    rw (p.1, p.2, refused_behind a.layout a.field (text_checks a.field a.text.now) (sym c.check_writable.ensures ∙ c.in_err-check_writable.was))

pub returns : goal.returns
returns c =
    let a = c.args in
    rw (passed_behind a.layout a.field (text_checks a.field a.text.now) (sym c.check_writable.ensures ∙ c.in_ok-check_writable.was)) c.check_text.ensures
