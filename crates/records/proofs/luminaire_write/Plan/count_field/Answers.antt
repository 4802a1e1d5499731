-- `records::luminaire_write::Plan::count_field` meets its contract: the checks of the number, then those of the text, and the
-- stores of either.
-- Assumes nothing.
use Rattle.std.proofs.Common.{◌≡◌, sym, ap, ◌∙◌, ◌≤◌, List, length, true, None, Ok}
use borrow.Author.Tests.{ltb-false, not-false}
use Rattle.std.proofs.lemmas.Result.{err_from_is_err_and}
use Rattle.bank.specs.Refusal.{Check, first_of}
use Rattle.bank.specs.Fields.{is_text_kind}
use Rattle.bank.specs.Writable.{write_checks, text_checks}
use Rattle.bank.proofs.Checks.{refused_first, passed_first, none_second, passed, told_err, told_ok, was_answered, was_refused}
use Rattle.records.specs.Writes.{wanted_number}
use Rattle.records.specs.Plan.{if_wanted, number_checks, write_text_checks}
use Rattle.records.proofs.Counting.{counted_number, counted_text}
use Rattle.records.proofs.luminaire_write.Plan.count_field.Goals as goal
use Rattle.records.proofs.luminaire_write.Plan.count_field.Goals.{After-count_number, In_ok-check_text}

-- the checks of the wanted number
abbrev checks : (c : After-count_number) → List Check
checks c =
    let a = c.args in
    if_wanted (wanted_number a.self.numbers a.row.field.kind) (number_checks a.self.layout a.row.field)

pub returns-in_err-number : goal.returns-in_err-number
returns-in_err-number c =
    let cs = checks (goal.at.returns-in_err-number c).After-count_number in
    let p = err_from_is_err_and c.from_residual.result c.from_residual.ensures.1 in
    rw (p.1, p.2, refused_first cs _ (was_refused cs _ (sym c.count_number.ensures ∙ c.in_err-number.was)))

pub returns-then-not-is_for : goal.returns-then-not-is_for
unfolding first_of
returns-then-not-is_for c =
    let a = c.args in
    let cs = checks (goal.at.returns-then-not-is_for c).After-count_number in
    let told = was_answered cs _ (sym c.count_number.ensures ∙ c.in_ok-number.was) in
    let none_for = sym c.is_for.ensures ∙ c.if-not-is_for.true in
    rw (passed_first cs _ told.0, none_for)
    (ap Ok (told.1 ∙ sym (counted_number a.self.numbers a.self.text_field a.text.now a.row.index a.row.field none_for)))

pub returns-in_err-check_text : goal.returns-in_err-check_text
returns-in_err-check_text c =
    let a = c.args in
    let cs = checks (goal.at.returns-in_err-check_text c).After-count_number in
    let told = was_answered cs _ (sym c.count_number.ensures ∙ c.in_ok-number.was) in
    let p = err_from_is_err_and c.from_residual-in_err-check_text.result c.from_residual-in_err-check_text.ensures.1 in
    rw (p.1, p.2, passed_first cs _ told.0, sym c.is_for.ensures ∙ c.if-not-is_for.false, told_err (write_text_checks a.self.layout a.row.field a.text.now) (sym c.check_text.ensures ∙ c.in_err-check_text.was))

-- what is known of a text that may be written: its field takes texts, and is long enough
record Allowed (c : In_ok-check_text) : Type 0 where
  pub passed : first_of (write_text_checks c.args.self.layout c.args.row.field c.args.text.now) ≡ None
  pub is_text : is_text_kind c.args.row.field.kind ≡ true
  pub fits : length c.args.text.now ≤ c.args.row.field.len

allowed : (c : In_ok-check_text) → Allowed c
allowed c =
    let a = c.args in
    let f = a.row.field in
    let passes = told_ok (write_text_checks a.self.layout f a.text.now) (sym c.check_text.ensures ∙ c.in_ok-check_text.was) in
    let tests = passed (text_checks f a.text.now) (none_second (write_checks a.self.layout f) (text_checks f a.text.now) passes) in
    record {
      passed = passes;
      is_text = not-false (is_text_kind f.kind) tests.0;
      fits = ltb-false f.len (length a.text.now) tests.1.0;
    }

pub text_stores-requires : goal.text_stores-requires
text_stores-requires c = (allowed (goal.at.text_stores-requires c).In_ok-check_text).fits

pub returns : goal.returns
returns c =
    let a = c.args in
    let cs = checks (goal.at.returns c).After-count_number in
    let told = was_answered cs _ (sym c.count_number.ensures ∙ c.in_ok-number.was) in
    let text = allowed (goal.at.returns c).In_ok-check_text in
    let for_it = sym c.is_for.ensures ∙ c.if-not-is_for.false in
    rw (passed_first cs _ told.0, for_it, text.passed)
    (ap Ok (c.text_stores.ensures ∙ sym (counted_text a.self.numbers a.self.text_field a.text.now a.row.index a.row.field text.is_text for_it)))
