-- `records::luminaire_write::Plan::count_fields` meets its contract, by its invariant.
-- Assumes nothing.
use Rattle.std.proofs.Common.{◌≡◌, refl, sym, ap, ◌∙◌, length, take, None, Ok, arith}
use Rattle.std.proofs.lemmas.Result.{err_from_is_err_and}
use Rattle.bank.specs.Refusal.{first_of}
use Rattle.bank.specs.Fields.{luminaire_fields}
use Rattle.bank.proofs.Checks.{was_refused}
use Rattle.records.specs.Writes.{gather}
use Rattle.records.specs.Plan.{field_checks}
use Rattle.records.proofs.Table.{all_rows}
use Rattle.records.proofs.Room.{own_counted, same_front, still_passed, all_front}
use Rattle.records.proofs.Refusals.{first_none, field_refused}
use Rattle.records.proofs.luminaire_write.Plan.count_fields.Goals as goal
use Rattle.records.proofs.luminaire_write.Plan.count_fields.Goals.{In-Some}

-- no check of the fields before the next row applies
passed : (c : In-Some) → first_of (gather (field_checks c.args.self c.args.text.now) (take c.in-Some.row.index luminaire_fields)) ≡ None
passed c =
    let next = c.in-Some.ensures.some in
    still_passed c.args.self c.args.text.now c.wanted_places-places.result c.wanted_places-places.ensures.places next.2 next.0 c.loop-row.invariant.passed

pub loop-row-init : goal.loop-row-init
loop-row-init c = record { within = omega arith; passed = first_none; few = omega arith; counted = refl }

pub returns-in_err-count : goal.returns-in_err-count
returns-in_err-count c =
    let a = c.args in
    let row = c.in-Some.row in
    let p = err_from_is_err_and c.from_residual.result c.from_residual.ensures.1 in
    rw (p.1, p.2, field_refused (field_checks a.self a.text.now) row.index row.in_table (passed (goal.at.returns-in_err-count c).In-Some) (was_refused _ _ (sym c.count_field.ensures ∙ c.in_err-count.was)))

pub overflow_add-count : goal.overflow_add-count
overflow_add-count c =
    let row = c.in-Some.row in
    let t = own_counted c.args.self c.args.text.now row.index row.in_table (passed (goal.at.overflow_add-count c).In-Some) (sym c.count_field.ensures ∙ c.in_ok-count.was) in
    omega (arith, t, c.loop-row.invariant, c.in-Some.ensures.some.0, c.in-Some.ensures.some.1)

pub loop-row-preserved : goal.loop-row-preserved
loop-row-preserved c =
    let a = c.args in
    let p = a.self in
    let s = c.loop-row.invariant in
    let row = c.in-Some.row in
    let next = c.in-Some.ensures.some in
    let some = (goal.at.loop-row-preserved c).In-Some in
    let t = own_counted p a.text.now row.index row.in_table (passed some) (sym c.count_field.ensures ∙ c.in_ok-count.was) in
    let same = same_front p.numbers p.text_field c.wanted_places-places.result c.wanted_places-places.ensures.places next.2 next.0 a.text.now in
    record {
      within = omega (arith, next.1);
      passed = t.passed;
      few = omega (arith, t, s.few, next.0);
      counted = omega (arith, s.counted, t.counted, ap length same);
    }

pub returns : goal.returns
returns c =
    let a = c.args in
    let p = a.self in
    let s = c.loop-row.invariant in
    let none = c.in_default.ensures.none refl in
    let places = c.wanted_places-places in
    let all : first_of (gather (field_checks p a.text.now) luminaire_fields) ≡ None =
    rw all_rows at (still_passed p a.text.now places.result places.ensures.places none s.within s.passed) in
    rw all (ap Ok (s.counted ∙ ap length (sym (same_front p.numbers p.text_field places.result places.ensures.places none s.within a.text.now) ∙ all_front p.numbers p.text_field a.text.now)))
