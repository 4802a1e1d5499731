-- `bank::layout::fields_from` meets its contract: the search gives the first field that starts at the offset.
-- Assumes nothing.
use Rattle.std.proofs.Common.{◌≡◌, sym, ◌∙◌, drop, rules, arith}
use Rattle.std.specs.Prelude.{position}
use Rattle.std.proofs.lemmas.Iterator.{YieldsList-from_slice}
use Rattle.std.proofs.lemmas.Iterator.Search.{position_from_yields_List}
use Rattle.std.proofs.lemmas.List.{take_all}
use borrow.Author.Tests.{tests}
use lib.ListN.{length-drop}
use Rattle.bank.proofs.Chunk.{is_start, from_found, from_none}
use Rattle.bank.proofs.layout.fields_from.Goals as goal
use Rattle.bank.proofs.layout.fields_from.Goals.{After-position}

-- what the search answers
first : (c : After-position) → c.position.result ≡ position (is_start c.args.offset) c.args.fields.now
first c = position_from_yields_List (is_start c.args.offset) _ _ _ c.position.ensures.ran (YieldsList-from_slice c.args.fields.now cc) (λ x b q k. search (rules, tests))

pub returns-in-Some : goal.returns-in-Some
returns-in-Some c =
    let fs = c.args.fields.now in
    let i = c.in-Some.i in
    take_all _ (drop i fs) (omega (arith, length-drop i fs))
    ∙ from_found c.args.offset fs (sym (first (goal.at.returns-in-Some c).After-position) ∙ c.in-Some.is)

pub returns-in-None : goal.returns-in-None
returns-in-None c = from_none c.args.offset c.args.fields.now (sym (first (goal.at.returns-in-None c).After-position) ∙ c.in-None.is)
