-- `records::memory_bank_parser::parse_gear_diagnostics` meets its contract, with an earlier record and without.
-- Assumes nothing.
use Rattle.std.proofs.Common.{rules}
use Rattle.records.proofs.Since.{by_option}
use Rattle.records.proofs.memory_bank_parser.parse_gear_diagnostics.Goals as goal

pub returns : goal.returns
returns c =
    rw (c.read.ensures, c.of.ensures) (by_option c.args.earlier (λ h. rw h (search rules)) (λ e h. rw h (search rules)))
