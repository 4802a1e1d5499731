-- The cases of 01 hold of the definitions: antt computes the whole table.
-- Assumes nothing.
use mathlib.Core.Path.{refl}
use lib.Count.{count_trailing_zeros}
use Rattle.bus.specs.Number.{number, low_bytes}
use Rattle.bus.specs.Maps.{map_at, first_with}
use Rattle.bus.specs.Part251.{format_of}
use Rattle.bank.specs.Refusal.{first_of}
use Rattle.bank.specs.Fields.{luminaire_fields, first_not_printable, id_in}
use Rattle.bank.specs.Writable.{check_writable}
use Rattle.bank.specs.Chunk.{fields_from, with_further, whole_fields, chunk_len}
use Rattle.records.specs.Utf8.{table3_7, follow, sequence_len}
use Rattle.records.specs.Text.{pieces_behind, fitting}
use Rattle.records.specs.Writes.{number_for, planned_writes, plan_stores}
use Rattle.records.specs.Plan.{plan_checks}
use Rattle.records.specs.Cases.{cases, CasesHold}

pub cases_hold : CasesHold
unfolding cases chunk_len whole_fields with_further fields_from map_at first_of check_writable luminaire_fields id_in number format_of first_with table3_7 follow sequence_len pieces_behind fitting low_bytes first_not_printable count_trailing_zeros number_for planned_writes plan_stores plan_checks
cases_hold = refl
