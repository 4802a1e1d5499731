-- `records::luminaire_write::Plan::stores` meets its contract: refused by a check, by a short slice, or laid.
-- Assumes nothing.
use Rattle.std.proofs.Common.{◌≡◌, ℕ, take, sym, ap, ◌∙◌, length, length-take, None, arith}
use Rattle.std.proofs.lemmas.Result.{err_from_is_err_and}
use Rattle.bank.specs.Refusal.{first_of}
use Rattle.records.specs.Plan.{plan_checks, stores_of}
use Rattle.records.proofs.Beforehand.{count_accepted, count_refused}
use Rattle.records.proofs.Counting.{at_most_80}
use Rattle.records.proofs.Plans.{plan_refused, offsets_short, values_short, plan_accepted}
use Rattle.records.proofs.luminaire_write.Plan.stores.Goals as goal
use Rattle.records.proofs.luminaire_write.Plan.stores.Goals.{In_ok-count, then-offsets-count-via-then-offsets-count, then-offsets-count-via-else-offsets-count+then-values-count}

-- no check but the last applies, and so many stores there are
told : (c : In_ok-count) → (first_of (plan_checks c.args.self c.args.text.now) ≡ None) × (c.in_ok-count.count ≡ length (stores_of c.args.self c.args.text.now))
told c = count_accepted c.args.self c.args.text.now (sym c.count.ensures ∙ c.in_ok-count.was)

pub returns-in_err-count : goal.returns-in_err-count
returns-in_err-count c =
    let a = c.args in
    let p = err_from_is_err_and c.from_residual.result c.from_residual.ensures.1 in
    let all = plan_refused a.self a.text.now a.offsets.now a.values.now (count_refused a.self a.text.now (sym c.count.ensures ∙ c.in_err-count.was)) in
    record { count = rw (p.1, p.2) all.0; offsets = all.1.0; values = all.1.1 }

pub returns-then-offsets-count : goal.returns-then-offsets-count
returns-then-offsets-count c =
    let a = c.args in
    let t = told (goal.at.returns-then-offsets-count c).In_ok-count in
    elim c.then-offsets-count.branch [
      | then-offsets-count-via-then-offsets-count w ↦
          let all = offsets_short a.self a.text.now a.offsets.now a.values.now t.0 (omega (arith, t.1, w.if-offsets-count.true)) in
          record { count = all.0; offsets = all.1.0; values = all.1.1 }
      | then-offsets-count-via-else-offsets-count+then-values-count w ↦
          let all = values_short a.self a.text.now a.offsets.now a.values.now t.0 (omega (arith, t.1, w.if-offsets-count.false)) (omega (arith, t.1, w.if-values-count.true)) in
          record { count = all.0; offsets = all.1.0; values = all.1.1 }
    ]

pub lay-requires : goal.lay-requires
lay-requires c =
    let a = c.args in
    omega (arith, at_most_80 a.self a.text.now (told (goal.at.lay-requires c).In_ok-count).0)

pub slice_bounds-stores-end : goal.slice_bounds-stores-end
slice_bounds-stores-end c =
    let a = c.args in
    let t = told (goal.at.slice_bounds-stores-end c).In_ok-count in
    omega (arith, t.1, at_most_80 a.self a.text.now t.0, c.lay.auto.stores)

pub slice_bounds-lay_stores-end : goal.slice_bounds-lay_stores-end
slice_bounds-lay_stores-end c =
    let a = c.args in
    let t = told (goal.at.slice_bounds-lay_stores-end c).In_ok-count in
    simp length-take (omega (arith, t.1, at_most_80 a.self a.text.now t.0, c.lay.auto.stores))

pub returns : goal.returns
returns c =
    let a = c.args in
    let t = told (goal.at.returns c).In_ok-count in
    let first = ap (λ (n : ℕ). take n c.lay.new.stores) t.1 ∙ c.lay.ensures in
    let e = c.lay_stores.ensures in
    let all = plan_accepted a.self a.text.now a.offsets.now a.values.now t.0 (omega (arith, t.1)) (omega (arith, t.1)) t.1 (rw first at e.offsets) (rw first at e.values) in
    record { count = all.0; offsets = all.1.0; values = all.1.1 }
