-- `records::utf8::sequence_len` meets its contract: each arm is the row of its first byte.
-- Assumes nothing.
use mathlib.Core.Path.{refl, sym, ◌∙◌}
use native.Mathlib.Omega.{arith}
use Rattle.records.specs.Utf8.{table3_7, follow}
use Rattle.records.proofs.Sequences.{row_of, no_first, no_row_under, no_row_over}
use Rattle.records.proofs.utf8.sequence_len.Goals as goal

pub returns-in_err-first : goal.returns-in_err-first
returns-in_err-first c = c.from_residual.ensures ∙ sym (no_first _ c.in_err-first.ensures.value)

pub returns-in-224 : goal.returns-in-224
unfolding table3_7
returns-in-224 c = c.followed.ensures ∙ row_of _ c.in_ok-first.ensures.value 2 refl (omega (arith, c.in-224.is)) (omega (arith, c.in-224.is))

pub returns-in-237 : goal.returns-in-237
unfolding table3_7
returns-in-237 c = c.followed-in-237.ensures ∙ row_of _ c.in_ok-first.ensures.value 4 refl (omega (arith, c.in-237.is)) (omega (arith, c.in-237.is))

pub returns-in-240 : goal.returns-in-240
unfolding table3_7
returns-in-240 c = c.followed-in-240.ensures ∙ row_of _ c.in_ok-first.ensures.value 6 refl (omega (arith, c.in-240.is)) (omega (arith, c.in-240.is))

pub returns-in-244 : goal.returns-in-244
unfolding table3_7
returns-in-244 c = c.followed-in-244.ensures ∙ row_of _ c.in_ok-first.ensures.value 8 refl (omega (arith, c.in-244.is)) (omega (arith, c.in-244.is))

pub returns-in-0-to-127 : goal.returns-in-0-to-127
unfolding table3_7 follow
returns-in-0-to-127 c = row_of _ c.in_ok-first.ensures.value 0 refl (omega arith) (omega arith)

pub returns-in-194-to-223 : goal.returns-in-194-to-223
unfolding table3_7
returns-in-194-to-223 c = c.followed-in-194-to-223.ensures ∙ row_of _ c.in_ok-first.ensures.value 1 refl (omega arith) (omega arith)

pub returns-in-225-to-236 : goal.returns-in-225-to-236
unfolding table3_7
returns-in-225-to-236 c = c.followed-in-225-to-236.ensures ∙ row_of _ c.in_ok-first.ensures.value 3 refl (omega arith) (omega arith)

pub returns-in-238-to-239 : goal.returns-in-238-to-239
unfolding table3_7
returns-in-238-to-239 c = c.followed-in-238-to-239.ensures ∙ row_of _ c.in_ok-first.ensures.value 5 refl (omega arith) (omega arith)

pub returns-in-241-to-243 : goal.returns-in-241-to-243
unfolding table3_7
returns-in-241-to-243 c = c.followed-in-241-to-243.ensures ∙ row_of _ c.in_ok-first.ensures.value 7 refl (omega arith) (omega arith)

pub returns-in_default : goal.returns-in_default
returns-in_default c = sym (no_row_under _ c.in_ok-first.ensures.value (omega arith) (omega arith))

pub returns-in_default-2 : goal.returns-in_default-2
returns-in_default-2 c = sym (no_row_over _ c.in_ok-first.ensures.value (omega arith))
