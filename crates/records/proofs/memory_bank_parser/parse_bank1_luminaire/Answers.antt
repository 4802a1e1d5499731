-- `records::memory_bank_parser::parse_bank1_luminaire` meets its contract, member by member.
-- Assumes nothing.
use mathlib.Core.Path.{sym, ◌∙◌}
use Rattle.bank.specs.Fields.{luminaire_fields, place_of}
use Rattle.records.proofs.Luminaire.{from_first, id_alone}
use Rattle.records.proofs.memory_bank_parser.parse_bank1_luminaire.Goals as goal

pub returns : goal.returns
unfolding luminaire_fields place_of
returns c =
    rw (
      c.number.ensures,
      c.number-2.ensures,
      c.number-3.ensures,
      c.number-4.ensures,
      c.number-5.ensures,
      c.number-6.ensures,
      c.number-7.ensures,
      c.number-8.ensures,
      c.number-9.ensures,
      c.number-10.ensures,
      c.number-11.ensures,
      c.text.ensures,
      c.text-2.ensures,
      c.text-3.ensures,
      c.text-4.ensures,
      c.text-5.ensures,
      c.text-6.ensures,
      c.since-from4.ensures.same,
      c.since-from4.ensures.later,
      c.since-from5.ensures.same,
      c.since-from5.ensures.later,
      c.format_of.ensures,
      c.content_format_id-content_format_id.ensures,
      c.of-given.ensures,
    ) (simp from_first)

pub returns-in_default : goal.returns-in_default
unfolding luminaire_fields place_of
returns-in_default c =
    let id = c.content_format_id-content_format_id.ensures in
    let none = rw (id, c.of-given.ensures) at (sym c.format_of.ensures ∙ c.in_default.is) in
    rw (id, c.of-given.ensures) (id_alone c.args.start_offset c.args.bytes.now none)
