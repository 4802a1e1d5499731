-- `records::luminaire_write::next_row` meets its contract, by the lowest bit of those that are left.
-- Assumes nothing.
use Rattle.std.proofs.Common.{arith}
use Rattle.std.proofs.lemmas.Option.{slice_get-get_or}
use Rattle.records.proofs.Rows.{none_left, next_within, next_in, none_before, next_set}
use Rattle.records.proofs.luminaire_write.next_row.Goals as goal

pub returns-then-rest-eq0-clause-none : goal.returns-then-rest-eq0-clause-none
returns-then-rest-eq0-clause-none c = λ _. none_left c.args.places c.args.from c.if-rest-eq0.true 18

pub bounds-luminaire_fields-index : goal.bounds-luminaire_fields-index
bounds-luminaire_fields-index c = next_in c.args.places c.args.from c.requires.few c.if-rest-eq0.false c.luminaire_fields.ensures

pub invariant_of-result : goal.invariant_of-result
invariant_of-result c =
    record { in_table = rw (← c.luminaire_fields.ensures) (slice_get-get_or _ _ _ (next_in c.args.places c.args.from c.requires.few c.if-rest-eq0.false c.luminaire_fields.ensures)) }

pub returns-clause-some : goal.returns-clause-some
returns-clause-some c = (
  omega arith,
  next_within c.args.places c.args.from c.requires.few c.if-rest-eq0.false,
  none_before c.args.places c.args.from c.requires.few c.if-rest-eq0.false,
  next_set c.args.places c.args.from c.requires.few c.if-rest-eq0.false,
)
