-- `records::cut_plan::read_back` meets its contract.
-- Assumes nothing.
use Rattle.std.proofs.lemmas.Result.{err_from_is_err_and}
use Rattle.bank.specs.Calls.{calls_in}
use Rattle.records.proofs.CutRuns.{start_refused, start_accepted, same_plan, run_refused, plan_refuses, run_accepted}
use Rattle.records.proofs.cut_plan.read_back.Goals as goal

pub returns-in_err-out : goal.returns-in_err-out
returns-in_err-out c =
    let a = c.args in
    let p = err_from_is_err_and c.from_residual.result c.from_residual.ensures.1 in
    let all = run_refused a.mode a.numbers a.text_field a.text.now a.bank.now a.cut a.buffer.now (calls_in a.calls.now) a.answers.now (start_refused a.mode a.numbers a.text_field a.text.now a.bank.now c.start.ensures c.in_err-out.was) in
    record { last = rw (p.1, p.2) all.0; cut = all.1.0; stored = all.1.1.0; answered = all.1.1.1 }

pub returns-in_err-store : goal.returns-in_err-store
returns-in_err-store c =
    let a = c.args in
    let p = err_from_is_err_and c.from_residual-in_err-store.result c.from_residual-in_err-store.ensures.1 in
    let started = start_accepted a.mode a.numbers a.text_field a.text.now a.bank.now c.start.ensures c.in_ok-out.was in
    let all = plan_refuses a.mode a.numbers a.text_field a.text.now a.bank.now a.cut a.buffer.now (calls_in a.calls.now) a.answers.now started (same_plan a.numbers a.text_field a.bank.now c.from_header.ensures) c.store.ensures.answer c.store.ensures.stored c.in_err-store.was in
    record { last = rw (p.1, p.2) all.0; cut = all.1.0; stored = all.1.1.0; answered = all.1.1.1 }

pub returns : goal.returns
returns c =
    let a = c.args in
    let started = start_accepted a.mode a.numbers a.text_field a.text.now a.bank.now c.start.ensures c.in_ok-out.was in
    let all = run_accepted a.mode a.numbers a.text_field a.text.now a.bank.now a.cut a.buffer.now (calls_in a.calls.now) a.answers.now started (same_plan a.numbers a.text_field a.bank.now c.from_header.ensures) c.store.ensures.answer c.store.ensures.stored c.in_ok-store.was c.run.ensures.last c.run.ensures.stored c.run.ensures.answered in
    record { last = all.0; cut = all.1.0; stored = all.1.1.0; answered = all.1.1.1 }
