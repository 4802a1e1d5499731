-- `records::luminaire_write::Plan::count_number` meets its contract: without a number there is no check, and no store.
-- Assumes nothing.
use Rattle.std.proofs.Common.{sym, ◌∙◌}
use Rattle.bank.specs.Refusal.{first_of}
use Rattle.records.proofs.luminaire_write.Plan.count_number.Goals as goal

pub returns-in_default : goal.returns-in_default
unfolding first_of
returns-in_default c = rw (sym c.of_field.ensures ∙ c.in_default.is)
