-- `bus::layout::field_containing` meets its contract: where a bank has no map there is no field, and else the map is searched.
-- Assumes nothing.
use Rattle.std.proofs.Common.{sym}
use Rattle.bus.specs.Maps.{first_with}
use Rattle.bus.proofs.layout.field_containing.Goals as goal

pub returns-in-Missing : goal.returns-in-Missing
unfolding first_with
returns-in-Missing c = rw (sym c.map_of.ensures, c.in-Missing.is)
