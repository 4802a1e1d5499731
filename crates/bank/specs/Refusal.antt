-- 01, "Who can cause a refusal": "Each returns its number alone, with read-out and lent slices as before."; 02, F-1
-- Assumes nothing.
use Rattle.std.specs.Prelude.{◌≡◌, Bool, cond, List, [], ◌∷◌, ℕ, None, Option, Some, Result, Ok, Err}
use Rattle.bank.specs.declared.refusal.Refusal.{Refusal}
use Rattle.bank.specs.declared.refusal.Refusal.TheVariants.{FieldReadOnly, NotImplemented, NotRead, NotPart251, FieldNotInFormat, TooShort, NumberNotAccepted, FieldNotText, UnknownMaskBits, UnknownField, BudgetZero, ReadOutInvalid, SliceTooShort, WrongChunkLength, TextTooLong, ByteNotPrintable}

-- what a refusal tells: its number, and the value that it carries, if it carries one
pub record Told : Type 0 where
  pub number : ℕ
  pub value : Option ℕ

abbrev alone : ℕ → Told
alone n = record { number = n; value = None }

abbrev beside : ℕ → ℕ → Told
beside value n = record { number = n; value = Some value }

-- "1 field read-only"; "2 bank not implemented"; "3 last offset not read"; "4 id absent or not 3 to 5";
-- "5 not in format"; "6 field ends past the last offset"; "7 number not accepted";
-- 02, F-1: "Keep 8 for a text sent to a field that isn't a text";
-- "9 mask bits 11 to 15"; "10 field index over 17"; "11 budget 0"; "12 length over 256, or next offset over length";
-- "13 either store slice shorter than the list, or the buffer shorter than the read-out's length";
-- "14 chunk of another length than wanted";
-- 02, F-1: "15, text longer than its field; 16, a byte not printable"; "The letter refusal tells, beside its number, the
-- index of the first byte outside 20 to 7E hex"
abbrev pub told_by : Refusal → Told
told_by FieldReadOnly = alone 1
told_by NotImplemented = alone 2
told_by NotRead = alone 3
told_by NotPart251 = alone 4
told_by FieldNotInFormat = alone 5
told_by TooShort = alone 6
told_by NumberNotAccepted = alone 7
told_by FieldNotText = alone 8
told_by UnknownMaskBits = alone 9
told_by UnknownField = alone 10
told_by BudgetZero = alone 11
told_by ReadOutInvalid = alone 12
told_by SliceTooShort = alone 13
told_by WrongChunkLength = alone 14
told_by TextTooLong = alone 15
told_by (ByteNotPrintable index) = beside index 16

abbrev pub number_of : Refusal → ℕ
number_of r = (told_by r).number

abbrev pub value_of : Refusal → Option ℕ
value_of r = (told_by r).value

-- A number tells its cause: no two causes share one, and one that carries a value is told by both.
pub record NumberTells (r s : Refusal) : Type 0 where
  pub alone : value_of r ≡ None → r ≡ s
  pub with_value : value_of r ≡ value_of s → r ≡ s

abbrev pub NumberTellsCause : Type 0
NumberTellsCause = (r s : Refusal) → number_of r ≡ number_of s → NumberTells r s

infix 70 ◌when◌
-- a check: its refusal, and whether it applies
pub record Check : Type 0 where
  pub refusal : Refusal
  pub applies : Bool

abbrev pub ◌when◌ : Refusal → Bool → Check
r when b = record { refusal = r; applies = b }

-- checks stand in the order in which they are made: the first that applies counts
unfoldable pub first_of : List Check → Option Refusal
first_of [] = None
first_of (c ∷ cs) = cond c.applies (Some c.refusal) (first_of cs)

abbrev pub unless_refused : {A : Type 0} → Option Refusal → (Refusal → A) → A → A
unless_refused None refused answer = answer
unless_refused (Some r) refused answer = refused r

-- what a call answers, or leaves in a lent slice: what its refusal gives, and where no check applies, the answer
abbrev pub checked : {A : Type 0} → List Check → (Refusal → A) → A → A
checked cs refused answer = unless_refused (first_of cs) refused answer

-- what a call answers that only tests
abbrev pub tested : List Check → Result (Unit {0}) Refusal
tested cs = checked cs Err (Ok tt)
