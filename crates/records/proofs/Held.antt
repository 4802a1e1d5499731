-- Laws of bytes that a bank has already.
-- Assumes nothing.
use Rattle.std.proofs.Common.{◌≡◌, ap, ◌∙◌, false, List, ℕ, ◌+◌, ◌-◌, ◌≤◌, ◌<◌, length, take, drop, None, Some, slice_get, arith}
use borrow.Author.Tests.{le-leb, lt-leb}
use Rattle.bank.specs.declared.luminaire_write.LuminaireField.{LuminaireField}
use Rattle.bank.specs.Fields.{luminaire_fields}
use Rattle.records.specs.declared.luminaire_write.FieldWrite.{FieldWrite}
use Rattle.records.specs.Writes.{same, held_by}

module _ (w : FieldWrite) (bytes bank : List ℕ) where
  pub held_nowhere : slice_get luminaire_fields w.field ≡ None → held_by w bytes bank ≡ false
  unfolding held_by
  held_nowhere e = rw e

  module _ {f : LuminaireField} (e : slice_get luminaire_fields w.field ≡ Some f) where
    pub held_past : length bank < f.offset + w.len → held_by w bytes bank ≡ false
    unfolding held_by
    held_past h = rw (e, lt-leb (f.offset + w.len) (length bank) h)

    module _ (there : f.offset + w.len ≤ length bank) where
      pub held_unknown : length bytes < w.len → held_by w bytes bank ≡ false
      unfolding held_by
      held_unknown h = rw (e, le-leb (f.offset + w.len) (length bank) there, lt-leb (0 + w.len) (length bytes) (omega arith))

      pub held_same : w.len ≤ length bytes → held_by w bytes bank ≡ same (take (f.offset + w.len - f.offset) (drop f.offset bank)) (take (w.len - 0) bytes)
      unfolding held_by
      held_same h =
          let own : w.len ≡ w.len - 0 = omega arith in
          let there_too : w.len ≡ f.offset + w.len - f.offset = omega arith in
          rw (e, le-leb (f.offset + w.len) (length bank) there, le-leb (0 + w.len) (length bytes) (omega arith))
          (ap (λ (n : ℕ). same (take n (drop f.offset bank)) (take w.len bytes)) there_too
          ∙ ap (λ (n : ℕ). same (take (f.offset + w.len - f.offset) (drop f.offset bank)) (take n bytes)) own)
