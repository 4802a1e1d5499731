-- `records::memory_bank_parser::Given::byte` meets its contract: a byte is the number of a field of one.
-- Assumes nothing.
use mathlib.Core.Path.{sym, ap, ◌∙◌}
use native.Mathlib.Omega.{arith}
use lib.Seq.{take_all}
use Rattle.std.specs.Prelude.{Some, option_map}
use Rattle.bus.specs.Number.{number}
use Rattle.bus.proofs.Number.{number_one}
use Rattle.records.proofs.memory_bank_parser.Given.byte.Goals as goal

pub returns : goal.returns
returns c =
    let field = c.in_ok-field.field.now in
    let one = c.in_ok-field.ensures.whole in
    ap Some (sym (number_one field 0 (omega arith)) ∙ ap number (take_all 1 field (omega arith)))
    ∙ ap (option_map number) c.in_ok-field.ensures.bytes
