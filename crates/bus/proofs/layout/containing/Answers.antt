-- `bus::layout::containing` meets its contract: the search along the fields gives the first one that holds the byte.
-- Assumes nothing.
use Rattle.std.proofs.Common.{◌∙◌, rules}
use borrow.Author.Tests.{tests}
use Rattle.std.proofs.lemmas.Iterator.{YieldsList-from_slice}
use Rattle.std.proofs.lemmas.Iterator.Search.{find_from_yields_List}
use Rattle.bus.specs.Maps.{holds}
use Rattle.bus.proofs.Lists.{find_first}
use Rattle.bus.proofs.layout.containing.Goals as goal

pub returns : goal.returns
returns c =
    let o = c.args.offset in
    let fs = c.args.fields.now in
    find_from_yields_List (holds o) _ _ _ c.find.ensures.ran (YieldsList-from_slice fs cc) (λ x b q k. search (rules, tests))
    ∙ find_first (holds o) fs
