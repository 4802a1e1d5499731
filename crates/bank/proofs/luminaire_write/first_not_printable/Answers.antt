-- `bank::luminaire_write::first_not_printable` meets its contract: a text that is wholly printable has no such byte, and else the
-- search gives the first.
-- Assumes nothing.
use Rattle.std.proofs.Common.{◌∙◌, rules, sym}
use Rattle.std.specs.Prelude.{not}
use Rattle.std.proofs.lemmas.Iterator.{YieldsList-from_slice}
use Rattle.std.proofs.lemmas.Iterator.Search.{position_from_yields_List}
use borrow.Author.Tests.{tests}
use Rattle.bank.specs.Fields.{is_printable}
use Rattle.bank.proofs.Texts.{none_printable, searched}
use Rattle.bank.proofs.luminaire_write.first_not_printable.Goals as goal

pub returns-then-all_printable : goal.returns-then-all_printable
returns-then-all_printable c = sym (none_printable c.args.text.now (sym c.all_printable.ensures ∙ c.if-all_printable.true))

pub returns : goal.returns
returns c =
    let text = c.args.text.now in
    position_from_yields_List (λ b. not (is_printable b)) _ _ _ c.position.ensures.ran (YieldsList-from_slice text cc) (λ x b q k. search (rules, tests))
    ∙ searched text
