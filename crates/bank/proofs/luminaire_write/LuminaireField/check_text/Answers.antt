-- `bank::luminaire_write::LuminaireField::check_text` meets its contract, check by check.
-- Assumes nothing.
use Rattle.std.proofs.Common.{◌≡◌, true, sym, ◌∙◌, arith}
use borrow.Author.Tests.{lt-ltb}
use Rattle.bank.specs.Refusal.{first_of}
use Rattle.bank.specs.Fields.{is_text_kind}
use Rattle.bank.proofs.Texts.{found_below}
use Rattle.bank.proofs.TextChecks.{letters_left}
use Rattle.bank.proofs.luminaire_write.LuminaireField.check_text.Goals as goal
use Rattle.bank.proofs.luminaire_write.LuminaireField.check_text.Goals.{Else-not-is_text, Else-self-text}

-- 8 does not apply
text_field : (c : Else-not-is_text) → is_text_kind c.args.self.kind ≡ true
text_field c = sym c.is_text.ensures ∙ c.if-not-is_text.false

pub returns-then-not-is_text : goal.returns-then-not-is_text
unfolding first_of
returns-then-not-is_text c = rw (sym c.is_text.ensures ∙ c.if-not-is_text.true)

pub returns-then-self-text : goal.returns-then-self-text
unfolding first_of
returns-then-self-text c = rw (text_field (goal.at.returns-then-self-text c).Else-not-is_text, lt-ltb _ _ c.if-self-text.true)

pub overflow_cast-result : goal.overflow_cast-result
overflow_cast-result c =
    let below = found_below c.args.text.now (sym c.first_not_printable.ensures ∙ c.in-Some.is) in
    omega (arith, below, c.if-self-text.false, c.type_inv.text 0)

pub returns-in-Some : goal.returns-in-Some
unfolding first_of
returns-in-Some c =
    let a = c.args in
    let at = (goal.at.returns-in-Some c).Else-self-text in
    rw (letters_left a.self a.text.now (text_field (goal.at.returns-in-Some c).Else-not-is_text) c.if-self-text.false, sym c.first_not_printable.ensures ∙ c.in-Some.is)

pub returns-in-None : goal.returns-in-None
unfolding first_of
returns-in-None c =
    let a = c.args in
    rw (letters_left a.self a.text.now (text_field (goal.at.returns-in-None c).Else-not-is_text) c.if-self-text.false, sym c.first_not_printable.ensures ∙ c.in-None.is)
