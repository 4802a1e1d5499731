-- `bank::read_out::chunk_count` meets its contract, by its invariant.
-- Assumes nothing.
use Rattle.std.proofs.Common.{◌≡◌, sym, ◌∙◌, ◌+◌, ◌≤◌, arith}
use Rattle.std.proofs.lemmas.Result.{err_from_is_err_and}
use Rattle.bank.specs.ReadOut.{fresh}
use Rattle.bank.proofs.Checks.{told_err, told_ok}
use Rattle.bank.proofs.Counting.{refuses, started, CountedTo, none_counted, one_counted, all_counted, chunks_refused_as_run}
use Rattle.bank.proofs.read_out.chunk_count.Goals as goal
use Rattle.bank.proofs.read_out.chunk_count.Goals.{After-chunk_len-next, In_ok-start}

-- the new read-out is that of the arguments
is_new : (c : In_ok-start) → (let a = c.args in c.in_ok-start.start ≡ fresh a.bank a.length a.mode)
is_new c = let a = c.args in started a.bank a.length a.mode (sym c.starting.ensures ∙ c.in_ok-start.was)

-- with one chunk more
more : (c : After-chunk_len-next) → (let a = c.args in let l = c.loop-next in let n = c.chunk_len-next.result in
    (1 ≤ n) × CountedTo a.bank a.length a.mode a.budget (l.next + n) (l.count + 1))
more c =
    let a = c.args in
    one_counted a.bank a.length a.mode a.budget c.loop-next.invariant c.loop-next-test.true c.chunk_len-next.ensures

pub returns-in_err-start : goal.returns-in_err-start
returns-in_err-start c =
    let a = c.args in
    let p = err_from_is_err_and c.from_residual.result c.from_residual.ensures.1 in
    rw (p.1, p.2) (sym ((chunks_refused_as_run a.bank a.length a.mode a.budget).not_started (sym c.starting.ensures ∙ c.in_err-start.was)))

pub returns-in_err-check : goal.returns-in_err-check
returns-in_err-check c =
    let a = c.args in
    let p = err_from_is_err_and c.from_residual-in_err-check.result c.from_residual-in_err-check.ensures.1 in
    let told = told_err _ (sym c.check.ensures ∙ c.in_err-check.was) in
    rw (p.1, p.2) (sym (refuses a.bank a.length a.mode a.budget (rw (is_new (goal.at.returns-in_err-check c).In_ok-start) at told)))

pub loop-next-init : goal.loop-next-init
loop-next-init c =
    let a = c.args in
    let told = told_ok _ (sym c.check.ensures ∙ c.in_ok-check.was) in
    none_counted a.bank a.length a.mode a.budget (rw (is_new (goal.at.loop-next-init c).In_ok-start) at told)

pub overflow_add-next : goal.overflow_add-next
overflow_add-next c = omega (arith, more c, c.ranges.length)

pub loop-next-smaller : goal.loop-next-smaller
loop-next-smaller c = omega (arith, more c)

pub loop-next-preserved : goal.loop-next-preserved
loop-next-preserved c = (more c).1

pub returns : goal.returns
returns c = let a = c.args in all_counted a.bank a.length a.mode a.budget c.loop-next.invariant c.loop-next-test.false
