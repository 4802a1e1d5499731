-- `stores::listing::answer` meets its contract: a good file's plan, or the words for a bad one.
-- Assumes nothing.
use Rattle.std.specs.Prelude.{Some}
use mathlib.Core.Path.{◌≡◌, sym, ◌∙◌}
use lib.Dec.{lit≤}
use Rattle.stores.specs.File.{parsed}
use Rattle.stores.specs.Listing.{bad_file}
use Rattle.stores.proofs.Heads.{plan_good, good_long}
use Rattle.stores.proofs.Lines.{begun}
use Rattle.stores.proofs.Answers.{plan_printed, bad_printed}
use Rattle.stores.proofs.listing.answer.Goals as goal
use Rattle.stores.proofs.listing.answer.Goals.{In-Some}

-- what a file with a plan asks for
asked : (c : In-Some) → (parsed c.args.file.now ≡ Some c.in-Some.plan)
asked c = sym c.parse.ensures ∙ c.in-Some.is

pub slice_bounds-put_plan-count : goal.slice_bounds-put_plan-count
slice_bounds-put_plan-count c = good_long _ (plan_good _ (asked (goal.at.slice_bounds-put_plan-count c).In-Some))

pub slice_bounds-put_plan-start : goal.slice_bounds-put_plan-start
slice_bounds-put_plan-start c = good_long _ (plan_good _ (asked (goal.at.slice_bounds-put_plan-start c).In-Some))

pub returns-in_default : goal.returns-in_default
returns-in_default c =
    begun bad_file c.new-text.ensures c.fill_up.ensures (lit≤ tt) ∙ sym (bad_printed c.args.file.now (sym c.parse.ensures ∙ c.in_default.is))

pub returns : goal.returns
returns c = c.put_plan.ensures ∙ sym (plan_printed c.args.file.now (asked (goal.at.returns c).In-Some))
