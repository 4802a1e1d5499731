-- `bank::luminaire_write::check_writable` meets its contract, check by check.
-- Assumes nothing.
use Rattle.std.proofs.Common.{◌≡◌, sym, ◌∙◌, false, not, cond, ℕ, None, Some}
use Rattle.std.proofs.Common.{arith}
use Rattle.std.proofs.lemmas.Result.{err_from_is_err_and}
use Rattle.bus.specs.Part251.{from_format}
use Rattle.bus.specs.declared.part251.LuminaireFormat.{LuminaireFormat}
use Rattle.bank.specs.declared.luminaire_write.Bank1Layout.{Bank1Layout}
use Rattle.bank.specs.declared.luminaire_write.LuminaireField.{LuminaireField}
use Rattle.bank.specs.declared.refusal.Refusal.TheVariants.{NotRead, NotPart251, FieldNotInFormat, TooShort}
use Rattle.bank.specs.Refusal.{first_of}
use Rattle.bank.specs.Fields.{ends_by}
use Rattle.bank.specs.Writable.{read_only, missing, format_in, write_checks, check_writable}
use Rattle.bank.proofs.luminaire_write.check_writable.Goals as goal
use Rattle.bank.proofs.luminaire_write.check_writable.Goals.{Else-is_layout_id, Else-is_missing, In_ok-format}

-- 1 does not apply
writable : (c : Else-is_layout_id) → read_only c.args.field.kind ≡ false
writable c = sym c.is_layout_id.ensures ∙ c.if-is_layout_id.false

-- nor 2
there : (c : Else-is_missing) → missing c.args.layout.implemented ≡ false
there c = sym c.is_missing.ensures ∙ c.if-is_missing.false

-- nor 3 and 4
known : (c : In_ok-format) → (c.args.layout.last_offset ≡ Some c.in_ok-last_offset.last_offset) × (format_in c.args.layout.content_format_id ≡ Some c.in_ok-format.format)
known c =
    let last_is : c.args.layout.last_offset ≡ Some c.in_ok-last_offset.last_offset = grind arith in
    let format_is : c.format.result ≡ Some c.in_ok-format.format = grind arith in
    (last_is, sym c.format.ensures ∙ format_is)

-- where neither applies, and the last offset and the format are there, 5 and 6 are left
from_5 : (layout : Bank1Layout) (field : LuminaireField) (last : ℕ) (v : LuminaireFormat)
    → read_only field.kind ≡ false → missing layout.implemented ≡ false → layout.last_offset ≡ Some last → format_in layout.content_format_id ≡ Some v
    → first_of (write_checks layout field) ≡ cond (not (from_format field.since v)) (Some FieldNotInFormat) (cond (not (ends_by field last)) (Some TooShort) None)
unfolding first_of
from_5 layout field last v writable there last_is format_is = rw (writable, there, last_is, format_is)

pub returns-then-is_layout_id : goal.returns-then-is_layout_id
unfolding first_of check_writable
returns-then-is_layout_id c = rw (sym c.is_layout_id.ensures ∙ c.if-is_layout_id.true)

pub returns-then-is_missing : goal.returns-then-is_missing
unfolding first_of check_writable
returns-then-is_missing c = rw (writable (goal.at.returns-then-is_missing c).Else-is_layout_id, sym c.is_missing.ensures ∙ c.if-is_missing.true)

pub returns-in_err-last_offset : goal.returns-in_err-last_offset
unfolding first_of check_writable
returns-in_err-last_offset c =
    let at = goal.at.returns-in_err-last_offset c in
    let p = err_from_is_err_and c.from_residual.result c.from_residual.ensures.1 in
    let unread_there : c.args.layout.last_offset ≡ None = grind arith in
    let cause : c.in_err-last_offset.field-0.0 ≡ NotRead = grind arith in
    rw (p.1, p.2, cause, writable at.Else-is_layout_id, there at.Else-is_missing, unread_there)

pub returns-in_err-format : goal.returns-in_err-format
unfolding first_of check_writable
returns-in_err-format c =
    let at = goal.at.returns-in_err-format c in
    let p = err_from_is_err_and c.from_residual-in_err-format.result c.from_residual-in_err-format.ensures.1 in
    let last_is : c.args.layout.last_offset ≡ Some c.in_ok-last_offset.last_offset = grind arith in
    let none_there : c.format.result ≡ None = grind arith in
    let cause : c.in_err-format.field-0.0 ≡ NotPart251 = grind arith in
    rw (p.1, p.2, cause, writable at.Else-is_layout_id, there at.Else-is_missing, last_is, sym c.format.ensures ∙ none_there)

pub returns-then-not-in_format : goal.returns-then-not-in_format
unfolding check_writable
returns-then-not-in_format c =
    let at = goal.at.returns-then-not-in_format c in
    let is = known at.In_ok-format in
    rw (from_5 c.args.layout c.args.field c.in_ok-last_offset.last_offset c.in_ok-format.format (writable at.Else-is_layout_id) (there at.Else-is_missing) is.0 is.1, sym c.in_format.ensures ∙ c.if-not-in_format.true)

pub returns-then-not-ends_by : goal.returns-then-not-ends_by
unfolding check_writable
returns-then-not-ends_by c =
    let at = goal.at.returns-then-not-ends_by c in
    let is = known at.In_ok-format in
    rw (from_5 c.args.layout c.args.field c.in_ok-last_offset.last_offset c.in_ok-format.format (writable at.Else-is_layout_id) (there at.Else-is_missing) is.0 is.1, sym c.in_format.ensures ∙ c.if-not-in_format.false, sym c.ends_by.ensures ∙ c.if-not-ends_by.true)

pub returns : goal.returns
unfolding check_writable
returns c =
    let at = goal.at.returns c in
    let is = known at.In_ok-format in
    rw (from_5 c.args.layout c.args.field c.in_ok-last_offset.last_offset c.in_ok-format.format (writable at.Else-is_layout_id) (there at.Else-is_missing) is.0 is.1, sym c.in_format.ensures ∙ c.if-not-in_format.false, sym c.ends_by.ensures ∙ c.if-not-ends_by.false, is.1)
