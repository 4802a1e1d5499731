-- The printed listing of 01 holds of the definition: antt computes it.
-- Assumes nothing.
use mathlib.Core.Path.{refl}
use lib.Count.{count_trailing_zeros}
use Rattle.bus.specs.Number.{number, low_bytes}
use Rattle.bus.specs.Maps.{first_with}
use Rattle.bus.specs.Part251.{format_of}
use Rattle.bank.specs.Refusal.{first_of}
use Rattle.bank.specs.Fields.{luminaire_fields, first_not_printable}
use Rattle.records.specs.Writes.{number_for, planned_writes, plan_stores}
use Rattle.records.specs.Plan.{plan_checks}
use Rattle.stores.specs.File.{is_marked, is_good, layout_in, numbers_in, text_field_of, text_in}
use Rattle.stores.specs.Listing.{printed, ListingPrinted}

pub listing_printed : ListingPrinted
unfolding printed is_marked is_good layout_in numbers_in text_field_of text_in number format_of first_with low_bytes first_of luminaire_fields first_not_printable count_trailing_zeros number_for planned_writes plan_stores plan_checks
listing_printed = refl
