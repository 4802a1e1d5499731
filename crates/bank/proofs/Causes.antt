-- A refusal's number tells its cause: one list of all causes has each at its number.
-- Assumes nothing.
use Rattle.std.specs.Prelude.{None, Option, Some, slice_get, unwrap_or}
use mathlib.Core.Path.{◌≡◌, refl, sym, ap, ◌∙◌}
use mathlib.Core.List.{List, [], ◌∷◌}
use Prim.Native.Nat.{ℕ, ◌-◌}
use Rattle.bank.specs.declared.refusal.Refusal.{Refusal}
use Rattle.bank.specs.declared.refusal.Refusal.TheVariants.{FieldReadOnly, NotImplemented, NotRead, NotPart251, FieldNotInFormat, TooShort, NumberNotAccepted, FieldNotText, UnknownMaskBits, UnknownField, BudgetZero, ReadOutInvalid, SliceTooShort, WrongChunkLength, TextTooLong, ByteNotPrintable}
use Rattle.bank.specs.Refusal.{number_of, value_of, NumberTellsCause}

-- from 1 on, the last with its value
abbrev causes : ℕ → List Refusal
causes value =
    FieldReadOnly
    ∷ NotImplemented
    ∷ NotRead
    ∷ NotPart251
    ∷ FieldNotInFormat
    ∷ TooShort
    ∷ NumberNotAccepted
    ∷ FieldNotText
    ∷ UnknownMaskBits
    ∷ UnknownField
    ∷ BudgetZero
    ∷ ReadOutInvalid
    ∷ SliceTooShort
    ∷ WrongChunkLength
    ∷ TextTooLong
    ∷ ByteNotPrintable value
    ∷ []

-- a refusal that carries no other value than this
abbrev Carries : ℕ → Option ℕ → Type 0
Carries value None = Unit {0}
Carries value (Some v) = v ≡ value

at_its_number : (r : Refusal) (value : ℕ) → Carries value (value_of r) → slice_get (causes value) (number_of r - 1) ≡ Some r
at_its_number FieldReadOnly value c = refl
at_its_number NotImplemented value c = refl
at_its_number NotRead value c = refl
at_its_number NotPart251 value c = refl
at_its_number FieldNotInFormat value c = refl
at_its_number TooShort value c = refl
at_its_number NumberNotAccepted value c = refl
at_its_number FieldNotText value c = refl
at_its_number UnknownMaskBits value c = refl
at_its_number UnknownField value c = refl
at_its_number BudgetZero value c = refl
at_its_number ReadOutInvalid value c = refl
at_its_number SliceTooShort value c = refl
at_its_number WrongChunkLength value c = refl
at_its_number TextTooLong value c = refl
at_its_number (ByteNotPrintable index) value c = rw c

own : (o : Option ℕ) → Carries (unwrap_or o 0) o
own None = tt
own (Some v) = refl

pub number_tells_cause : NumberTellsCause
number_tells_cause r s e = record { alone = λ n. told (rw n tt); with_value = λ v. told (rw v (own (value_of s))) }
  where
    told : Carries (unwrap_or (value_of s) 0) (value_of r) → r ≡ s
    told c =
        let value = unwrap_or (value_of s) 0 in
        let same : Some r ≡ Some s = sym (at_its_number r value c) ∙ ap (λ (n : ℕ). slice_get (causes value) (n - 1)) e ∙ at_its_number s value (own (value_of s)) in
        cc
