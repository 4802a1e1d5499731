-- 01, "May the field be written": "`check_writable` is the reference for 1 to 6." 02, F-1: why a text is refused.
-- Assumes nothing.
use Rattle.std.specs.Prelude.{◌≡◌, Bool, true, false, not, List, [], ◌∷◌, ℕ, ◌≤◌, ◌<◌, ltb, length, Err, None, Ok, Option, Result, Some, slice_get}
use Rattle.bus.specs.declared.part251.LuminaireFormat.{LuminaireFormat}
use Rattle.bus.specs.Part251.{format_of, from_format}
use Rattle.bank.specs.declared.refusal.Refusal.{Refusal}
use Rattle.bank.specs.declared.refusal.Refusal.TheVariants.{FieldReadOnly, NotImplemented, NotRead, NotPart251, FieldNotInFormat, TooShort, FieldNotText, TextTooLong, ByteNotPrintable}
use Rattle.bank.specs.declared.luminaire_write.FieldKind.{FieldKind}
use Rattle.bank.specs.declared.luminaire_write.FieldKind.TheVariants.{LayoutId, Number, Text}
use Rattle.bank.specs.declared.luminaire_write.LuminaireField.{LuminaireField}
use Rattle.bank.specs.declared.luminaire_write.Bank1Layout.{Bank1Layout}
use Rattle.bank.specs.Refusal.{Check, ◌when◌, first_of, checked}
use Rattle.bank.specs.Fields.{first_not_printable, is_text_kind, accepts_text, ends_by}

-- 1: the layout id is read-only
abbrev pub read_only : FieldKind → Bool
read_only LayoutId = true
read_only (Number patch r) = false
read_only (Text t) = false

-- 2: it is known that the bank is not implemented
abbrev pub missing : Option Bool → Bool
missing (Some b) = not b
missing None = false

-- 3: the last offset was not read
abbrev pub unread : Option ℕ → Bool
unread (Some n) = false
unread None = true

-- "Formats are ids 3, 4 and 5": the format of a layout's id, if it is there and one of them
abbrev pub format_in : Option ℕ → Option LuminaireFormat
format_in (Some id) = format_of id
format_in None = None

-- 4: no format
abbrev pub no_format : Option LuminaireFormat → Bool
no_format (Some v) = false
no_format None = true

-- 5: a format, which doesn't have the field
abbrev pub lacks : Option LuminaireFormat → LuminaireField → Bool
lacks (Some v) f = not (from_format f.since v)
lacks None f = false

-- 6: a last offset, past which the field ends
abbrev pub ends_past : LuminaireField → Option ℕ → Bool
ends_past f (Some last) = not (ends_by f last)
ends_past f None = false

abbrev pub write_checks : Bank1Layout → LuminaireField → List Check
write_checks l f =
    FieldReadOnly when read_only f.kind
    ∷ NotImplemented when missing l.implemented
    ∷ NotRead when unread l.last_offset
    ∷ NotPart251 when no_format (format_in l.content_format_id)
    ∷ FieldNotInFormat when lacks (format_in l.content_format_id) f
    ∷ TooShort when ends_past f l.last_offset
    ∷ []

-- a field that may be written is written in the bank's format; without one, 4 has refused it
abbrev writable : Option LuminaireFormat → Result LuminaireFormat Refusal
writable (Some v) = Ok v
writable None = Err NotPart251

unfoldable pub check_writable : Bank1Layout → LuminaireField → Result LuminaireFormat Refusal
check_writable l f = checked (write_checks l f) Err (writable (format_in l.content_format_id))

-- 16: "a byte not printable", with "the index of the first byte outside 20 to 7E hex"
abbrev pub not_printable_at : Option ℕ → List Check
not_printable_at None = []
not_printable_at (Some index) = ByteNotPrintable index when true ∷ []

-- 02, F-1: "8 for a text sent to a field that isn't a text", "15, text longer than its field; 16, a byte not printable. Both
-- stand where 8 stood, in the order 8, 15, 16."
abbrev pub text_checks : LuminaireField → List ℕ → List Check
text_checks f text =
    FieldNotText when not (is_text_kind f.kind)
    ∷ TextTooLong when ltb f.len (length text)
    ∷ not_printable_at (first_not_printable text)

-- an index of a text whose byte is outside 20 to 7E hex, with every byte before it inside
pub record FirstOutside (text : List ℕ) (index : ℕ) : Type 0 where
  pub byte : ℕ
  pub at_index : slice_get text index ≡ Some byte
  pub outside : 0x20 ≤ byte → 0x7E < byte
  pub inside_before : (i b : ℕ) → i < index → slice_get text i ≡ Some b → (0x20 ≤ b) × (b ≤ 0x7E)

-- What is answered for a text, each cause where its fact holds and none before it does.
pub record TakenText (f : LuminaireField) (text : List ℕ) : Type 0 where
  pub not_text : is_text_kind f.kind ≡ false → first_of (text_checks f text) ≡ Some FieldNotText
  pub too_long : is_text_kind f.kind ≡ true → f.len < length text → first_of (text_checks f text) ≡ Some TextTooLong
  pub not_printable : (index : ℕ) → is_text_kind f.kind ≡ true → length text ≤ f.len → FirstOutside text index → first_of (text_checks f text) ≡ Some (ByteNotPrintable index)
  -- none exactly where `accepts_text` takes the text
  pub accepted : accepts_text f text ≡ true → first_of (text_checks f text) ≡ None
  pub only : first_of (text_checks f text) ≡ None → accepts_text f text ≡ true
  -- where 16 is answered; "Length is tested before letters", so its index is below the field's length
  pub first_outside : (index : ℕ) → first_of (text_checks f text) ≡ Some (ByteNotPrintable index) → FirstOutside text index
  pub below_length : (index : ℕ) → first_of (text_checks f text) ≡ Some (ByteNotPrintable index) → index < f.len

abbrev pub TextTakenExactly : Type 0
TextTakenExactly = (f : LuminaireField) (text : List ℕ) → TakenText f text
