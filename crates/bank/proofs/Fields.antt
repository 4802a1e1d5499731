-- The 18 fields lie one behind the other: antt computes the test over the whole table.
-- Assumes nothing.
use Rattle.bus.proofs.Contiguous.{contiguous}
use Rattle.bank.specs.declared.luminaire_write.LuminaireField.{LuminaireField}
use Rattle.bank.specs.Fields.{luminaire_fields, field_end, FieldsContiguous}

pub fields_contiguous : FieldsContiguous
unfolding luminaire_fields
fields_contiguous = contiguous (λ (f : LuminaireField). f.offset) field_end 0xCA 0x11 luminaire_fields tt
