-- `bank::layout::lamp_len` meets its contract, bank by bank.
-- Assumes nothing.
use borrow.Author.Tests.{eq-eqb, ne_eqb}
use Rattle.bank.specs.Chunk.{lamp_len}
use Rattle.bank.proofs.layout.lamp_len.Goals as goal

pub returns-then-bank-ne-BANK_LUMINAIRE_INFO : goal.returns-then-bank-ne-BANK_LUMINAIRE_INFO
unfolding lamp_len
returns-then-bank-ne-BANK_LUMINAIRE_INFO c = rw (c.chunk_len-len.ensures, ne_eqb c.args.bank 1 c.if-bank-ne-BANK_LUMINAIRE_INFO.true)

pub returns : goal.returns
unfolding lamp_len
returns c = rw (c.lamp_whole.ensures, c.chunk_len-len.ensures, eq-eqb c.args.bank 1 c.if-bank-ne-BANK_LUMINAIRE_INFO.false)
