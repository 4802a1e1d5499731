-- `answers::answer_block` is safe and ends. The measure is what is left of the block.
-- Assumes nothing.
use Rattle.std.proofs.Common.{length}
use Rattle.answers.proofs.answer_block.Given as goal

abbrev pub decreases-loop-start : goal.decreases-loop-start
decreases-loop-start g l = length l.rest
