-- `bank::luminaire_write::fits` meets its contract: a number of 64 bits fits eight bytes and more.
-- Assumes nothing.
use Rattle.std.proofs.Common.{sym, ◌*◌, ◌^◌, arith, ◌∙◌}
use borrow.Author.Tests.{lt-ltb, le-leb}
use lib.Pow.{pow_mono}
use Rattle.bank.proofs.luminaire_write.fits.Goals as goal

pub returns-then-len-ge8 : goal.returns-then-len-ge8
returns-then-len-ge8 c =
    le-leb 8 c.args.len c.if-len-ge8.true
    ∙ sym (lt-ltb c.args.value (2 ^ (8 * c.args.len)) (omega (arith, pow_mono {i = 64} {j = 8 * c.args.len} (omega arith))))
