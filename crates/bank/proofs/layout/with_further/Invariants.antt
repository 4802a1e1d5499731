-- `bank::layout::with_further` meets its contract. The invariant: what is taken, with what is left, makes the answer.
-- Assumes nothing.
use Rattle.std.proofs.Common.{◌≡◌, drop}
use Rattle.bank.specs.Chunk.{with_further}
use Rattle.bank.proofs.layout.with_further.Given as goal

abbrev pub invariant-loop-field : goal.invariant-loop-field
invariant-loop-field l = with_further l.limit l.taken (drop l.field-index l.fields) ≡ with_further l.limit l.fn.taken l.fields
