-- `bank::layout::whole_fields` meets its contract: the first field counts, then those behind it.
-- Assumes nothing.
use Rattle.std.proofs.Common.{sym, ap, ◌∙◌, ℕ, arith}
use Rattle.bank.specs.Chunk.{with_further}
use Rattle.bank.proofs.Chunk.{chunk_smaller, chunk_whole, chunk_end}
use Rattle.bus.proofs.Lists.{no_elements}
use Rattle.bank.proofs.layout.whole_fields.Goals as goal

pub returns-in_default : goal.returns-in_default
returns-in_default c = sym (chunk_end (no_elements c.args.fields.now c.in_default.ensures.cases) c.args.remaining c.args.limit)

pub returns-then-remaining-bytes : goal.returns-then-remaining-bytes
returns-then-remaining-bytes c =
    let a = c.args in
    sym (chunk_smaller c.in-Some.ensures.cases.0 a.remaining a.limit (omega (arith, c.bytes-bytes.ensures, c.if-remaining-bytes.true)))

pub returns : goal.returns
returns c =
    let a = c.args in
    let rest = c.in-Some.further.now in
    c.with_further.ensures
    ∙ ap (λ (n : ℕ). with_further a.limit n rest) c.bytes-bytes.ensures
    ∙ sym (chunk_whole c.in-Some.ensures.cases.0 a.remaining a.limit (omega (arith, c.bytes-bytes.ensures, c.if-remaining-bytes.false)))
