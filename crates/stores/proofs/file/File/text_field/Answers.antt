-- `stores::file::File::text_field` meets its contract.
-- Assumes nothing.
use lib.Dec.{eqb}
use Rattle.stores.proofs.Heads.{field_is, unless}
use Rattle.stores.proofs.file.File.text_field.Goals as goal

pub returns : goal.returns
returns c = rw (field_is c.args.self.bytes.now c.number-index.ensures.value, c.then_some.ensures) (unless (eqb c.number-index.result 0xFF) c.number-index.result)
