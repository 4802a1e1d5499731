-- `stores::file::parse` meets its contract: a file that ends within its head is bad.
-- Assumes nothing.
use Rattle.stores.proofs.Heads.{short_bad}
use Rattle.stores.proofs.file.parse.Goals as goal

pub returns-then-file-lt-HEAD_LEN : goal.returns-then-file-lt-HEAD_LEN
returns-then-file-lt-HEAD_LEN c = rw (short_bad c.args.file.now c.if-file-lt-HEAD_LEN.true)
