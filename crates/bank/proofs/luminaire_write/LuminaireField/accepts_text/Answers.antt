-- `bank::luminaire_write::LuminaireField::accepts_text` meets its contract: a text is accepted where none of its checks applies.
-- Assumes nothing.
use Rattle.std.proofs.Common.{sym, ap, ◌∙◌}
use Rattle.std.specs.Prelude.{is_ok}
use Rattle.bank.proofs.Checks.{ok_exactly}
use Rattle.bank.specs.Writable.{text_checks}
use Rattle.bank.proofs.TextChecks.{accepted_exactly}
use Rattle.bank.proofs.luminaire_write.LuminaireField.accepts_text.Goals as goal

pub returns : goal.returns
returns c =
    let a = c.args in
    c.is_ok.ensures.value
    ∙ ap is_ok c.check_text.ensures
    ∙ ok_exactly (text_checks a.self a.text.now)
    ∙ sym (accepted_exactly a.self a.text.now)
