-- `stores::file::File::is_marked` meets its contract.
-- Assumes nothing.
use Rattle.stores.specs.File.{is_marked}
use Rattle.stores.proofs.file.File.is_marked.Goals as goal

pub returns : goal.returns
unfolding is_marked
returns c = c.eq.ensures
