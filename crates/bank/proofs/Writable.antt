-- What is known of a field that may be written: none of the refusals 1 to 6 applies.
-- Assumes nothing.
use Rattle.std.specs.Prelude.{None, Option, Some}
use mathlib.Core.Path.{◌≡◌, refl}
use mathlib.Core.Bool.{true, false, true≢false}
use Prim.Native.Nat.{ℕ, ◌≤◌}
use borrow.Author.Tests.{leb-true, not-false}
use Rattle.bus.specs.declared.part251.LuminaireFormat.{LuminaireFormat}
use Rattle.bus.specs.Part251.{from_format}
use Rattle.bank.specs.declared.luminaire_write.LuminaireField.{LuminaireField}
use Rattle.bank.specs.declared.luminaire_write.Bank1Layout.{Bank1Layout}
use Rattle.bank.specs.Refusal.{first_of}
use Rattle.bank.specs.Fields.{last_offset_of, ends_by}
use Rattle.bank.specs.Writable.{read_only, missing, unread, format_in, no_format, lacks, ends_past, write_checks}
use Rattle.bank.proofs.Checks.{passed}

module _ (l : Bank1Layout) (f : LuminaireField) where
  -- by the numbers of the refusals that do not apply
  record NoneApplies : Type 0 where
    one : read_only f.kind ≡ false
    two : missing l.implemented ≡ false
    three : unread l.last_offset ≡ false
    four : no_format (format_in l.content_format_id) ≡ false
    five : lacks (format_in l.content_format_id) f ≡ false
    six : ends_past f l.last_offset ≡ false

  none_applies : first_of (write_checks l f) ≡ None → NoneApplies
  none_applies s =
      let t = passed (write_checks l f) s in
      record {
        one = t.0;
        two = t.1.0;
        three = t.1.1.0;
        four = t.1.1.1.0;
        five = t.1.1.1.1.0;
        six = t.1.1.1.1.1.0;
      }

  -- the format of the bank, which has the field
  pub record InFormat : Type 0 where
    pub format : LuminaireFormat
    pub is_format : format_in l.content_format_id ≡ Some format
    pub has_field : from_format f.since format ≡ true

  module _ (s : first_of (write_checks l f) ≡ None) where
    pub in_format_lem : InFormat
    in_format_lem = go (format_in l.content_format_id) refl
      where
        go : (o : Option LuminaireFormat) → format_in l.content_format_id ≡ o → InFormat
        go None e = absurd (true≢false (rw e at (none_applies s).four))
        go (Some v) e = record { format = v; is_format = e; has_field = not-false (from_format f.since v) (rw e at (none_applies s).five) }

    pub ends_by_lem : {last : ℕ} → l.last_offset ≡ Some last → last_offset_of f ≤ last
    ends_by_lem {last} e = leb-true (last_offset_of f) last (not-false (ends_by f last) (rw e at (none_applies s).six))
