-- `bank::luminaire_write::luminaire_fields` meets its contract: the table is that of the definitions.
-- Assumes nothing.
use Rattle.std.proofs.Common.{refl}
use Rattle.bank.specs.Fields.{luminaire_fields}
use Rattle.bank.proofs.luminaire_write.luminaire_fields.Goals as goal

pub returns : goal.returns
unfolding luminaire_fields
returns c = refl
