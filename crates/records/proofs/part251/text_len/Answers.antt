-- `records::part251::text_len` meets its contract.
-- Assumes nothing.
use mathlib.Core.Path.{◌≡◌, ap, ◌∙◌}
use Prim.Native.Nat.{ℕ}
use borrow.Author.Tests.{tests}
use lib.Dec.{eqb}
use lib.ListN.{length}
use Rattle.std.specs.Prelude.{Option, not, unwrap_or}
use Rattle.std.specs.List.{position_or_len}
use Rattle.std.proofs.Common.{rules}
use Rattle.std.proofs.lemmas.List.Sums.{prefix_len-le-length}
use Rattle.std.proofs.lemmas.Iterator.{YieldsList-from_slice}
use Rattle.std.proofs.lemmas.Iterator.Search.{position_from_yields_List}
use Rattle.records.proofs.Texts.{up_to_zero, place_or_end}
use Rattle.records.proofs.part251.text_len.Goals as goal

pub returns : goal.returns
returns c =
    let raw = c.args.raw.now in
    let place = position_from_yields_List (λ b. eqb b 0) _ _ c.position.result c.position.ensures.ran (YieldsList-from_slice raw cc) (λ x b q k. search (rules, tests)) in
    let n : c.unwrap_or.result ≡ position_or_len (λ b. eqb b 0) raw = c.unwrap_or.ensures ∙ ap (λ (o : Option ℕ). unwrap_or o (length raw)) place ∙ place_or_end (λ b. eqb b 0) raw in
    rw n (prefix_len-le-length (λ b. not (eqb b 0)) raw, up_to_zero raw)
