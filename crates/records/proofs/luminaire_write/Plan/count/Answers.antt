-- `records::luminaire_write::Plan::count` meets its contract, check by check.
-- Assumes nothing.
use mathlib.Core.Path.{sym, ◌∙◌}
use native.Mathlib.Omega.{arith}
use borrow.Author.Tests.{lt-ltb, le-ltb}
use Rattle.bank.specs.Refusal.{first_of}
use Rattle.records.specs.Plan.{plan_checks}
use Rattle.records.specs.Count.{counted_stores}
use Rattle.records.proofs.luminaire_write.Plan.count.Goals as goal

pub returns-then-self-gt-PATCH_BITS : goal.returns-then-self-gt-PATCH_BITS
unfolding counted_stores first_of plan_checks
returns-then-self-gt-PATCH_BITS c = rw (lt-ltb 2047 c.args.self.numbers.patch_mask (omega arith))

pub returns-then-has_unknown_field : goal.returns-then-has_unknown_field
unfolding counted_stores first_of plan_checks
returns-then-has_unknown_field c =
    rw (le-ltb 2047 c.args.self.numbers.patch_mask (omega arith), sym c.has_unknown_field.ensures ∙ c.if-has_unknown_field.true)

pub returns : goal.returns
unfolding counted_stores first_of plan_checks
returns c =
    rw (le-ltb 2047 c.args.self.numbers.patch_mask (omega arith), sym c.has_unknown_field.ensures ∙ c.if-has_unknown_field.false) c.count_fields.ensures
