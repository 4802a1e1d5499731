-- `records::luminaire_write::wanted_places` meets its contract, by the bits of the places.
-- Assumes nothing.
use Rattle.std.proofs.Common.{sym, ◌∙◌, arith}
use Rattle.std.proofs.lemmas.Nat.{one_shl}
use Rattle.std.proofs.lemmas.Option.{same_Some}
use Rattle.bus.proofs.Lists.{no_element}
use Rattle.records.proofs.Rows.{moved_few, both_few, with_text, without_text}
use Rattle.records.proofs.luminaire_write.wanted_places.Goals as goal

pub returns-in_default : goal.returns-in_default
returns-in_default c =
    record {
      few = moved_few c.args.numbers.patch_mask;
      places = without_text c.args.numbers c.args.text_field (λ t e. no_element (sym c.in_default.is ∙ e));
    }

pub returns-then-index-ge-FIELDS : goal.returns-then-index-ge-FIELDS
returns-then-index-ge-FIELDS c =
    record {
      few = moved_few c.args.numbers.patch_mask;
      places = without_text c.args.numbers c.args.text_field (λ t e. omega (arith, same_Some _ _ (sym c.in-Some.is ∙ e), c.if-index-ge-FIELDS.true));
    }

pub returns : goal.returns
returns c =
    let t = c.in-Some.index in
    let one = one_shl t 32 (omega (arith, c.if-index-ge-FIELDS.false)) in
    record {
      few = rw one (both_few c.args.numbers.patch_mask t c.if-index-ge-FIELDS.false);
      places = rw (c.in-Some.is, one) (with_text c.args.numbers t);
    }
