-- `bank::luminaire_write::all_printable` meets its contract, by its invariant.
-- Assumes nothing.
use Rattle.std.proofs.Common.{sym, ap, ◌∙◌, drop, ◌+◌}
use Rattle.std.specs.Prelude.{◌&&◌}
use lib.ListN.{drop_of_length-le}
use Rattle.bus.proofs.Lists.{left_at}
use Rattle.bank.specs.Fields.{printable}
use Rattle.bank.proofs.Texts.{told_more, told_all}
use Rattle.bank.proofs.luminaire_write.all_printable.Goals as goal

pub loop-byte-preserved : goal.loop-byte-preserved
loop-byte-preserved c =
    let text = c.args.text.now in
    let l = c.loop-byte in
    ap (λ b. (l.all && b) && printable (drop (l.byte-index + 1) text)) c.is_printable-all.ensures
    ∙ told_more l.all (left_at text l.byte-index _ c.loop-byte-test.true)
    ∙ l.invariant

pub returns : goal.returns
returns c =
    let l = c.loop-byte in
    sym (told_all l.all (drop_of_length-le c.args.text.now {i = l.byte-index} c.loop-byte-test.false)) ∙ l.invariant
