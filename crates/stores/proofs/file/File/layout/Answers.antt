-- `stores::file::File::layout` meets its contract, member by member.
-- Assumes nothing.
use Rattle.bank.specs.Fields.{luminaire_fields}
use Rattle.stores.specs.File.{layout_in}
use Rattle.stores.proofs.file.File.layout.Goals as goal

pub returns : goal.returns
unfolding layout_in luminaire_fields
returns c = rw (c.number.ensures.value, c.number-2.ensures.value)
