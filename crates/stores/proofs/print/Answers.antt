-- `stores::print` meets its contract: all of what is printed is written, or its first bytes.
-- Assumes nothing.
use mathlib.Core.Path.{◌∙◌}
use Rattle.std.specs.Prelude.{take}
use Rattle.std.proofs.Common.{rules}
use Rattle.stores.proofs.Printing.{read, written, cut_off}
use Rattle.stores.proofs.print.Goals as goal

pub returns-clause-ok : goal.returns-clause-ok
returns-clause-ok g c =
    let block = c.read_full.new.block in
    let got = c.in_ok-len.ensures in
    written
    c.write_full.result
    _ _ _
    (take c.in_ok-len.len block)
    c.write_full.ensures.ok
    (c.as_slice.ensures ∙ c.answer-text.ensures)
    (read _ _ block _ 4096 (search rules) got.within got.bytes got.end)

pub returns-clause-err : goal.returns-clause-err
returns-clause-err g c =
    let block = c.read_full.new.block in
    let got = c.in_ok-len.ensures in
    cut_off
    c.write_full.result
    _ _ _
    (take c.in_ok-len.len block)
    c.write_full.ensures.err
    (c.as_slice.ensures ∙ c.answer-text.ensures)
    (read _ _ block _ 4096 (search rules) got.within got.bytes got.end)
