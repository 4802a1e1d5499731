-- `records::luminaire_write::set_number` meets its contract: the low bytes are the last of all four.
-- Assumes nothing.
use Rattle.std.proofs.Common.{◌∙◌}
use Rattle.records.proofs.Stages.{low_of_wide}
use Rattle.records.proofs.luminaire_write.set_number.Goals as goal

pub returns : goal.returns
returns c = c.extend.ensures ∙ rw (c.clear.ensures, c.to_be_bytes-wide.ensures) (low_of_wide c.args.len c.args.value c.requires)
