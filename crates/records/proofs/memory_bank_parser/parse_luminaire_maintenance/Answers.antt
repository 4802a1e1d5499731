-- `records::memory_bank_parser::parse_luminaire_maintenance` meets its contract: each reading after the same member of
-- the earlier record.
-- Assumes nothing.
use Rattle.std.proofs.Common.{◌≡◌, rules}
use Rattle.std.specs.Prelude.{option_and_then, option_copied}
use Rattle.records.proofs.Since.{by_option}
use Rattle.records.proofs.memory_bank_parser.parse_luminaire_maintenance.Goals as goal

pub returns : goal.returns
returns c =
    let was = c.args.earlier in
    let life : option_copied c.and_then.result ≡ option_and_then (λ e. e.rated_life_kilohours) (option_copied was) =
    by_option was (λ h. rw h (search rules)) (λ e h. rw h (search rules)) in
    let reference : option_copied c.and_then-2.result ≡ option_and_then (λ e. e.reference_temperature_offset60) (option_copied was) =
    by_option was (λ h. rw h (search rules)) (λ e h. rw h (search rules)) in
    let starts : option_copied c.and_then-3.result ≡ option_and_then (λ e. e.rated_starts_hundreds) (option_copied was) =
    by_option was (λ h. rw h (search rules)) (λ e h. rw h (search rules)) in
    rw (
      c.byte.ensures,
      c.reading.ensures.reading,
      c.reading-2.ensures.reading,
      c.reading-3.ensures.reading,
      c.of-given.ensures,
      life,
      reference,
      starts,
    )
