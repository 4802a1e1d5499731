-- `bus::layout::found_in` meets its contract, map by map.
-- Assumes nothing.
use Rattle.bus.specs.Maps.{first_with}
use Rattle.bus.proofs.layout.found_in.Goals as goal

pub returns-in-LuminaireInfo : goal.returns-in-LuminaireInfo
returns-in-LuminaireInfo c = rw (c.containing.ensures, c.in-LuminaireInfo.is)

pub returns-in-Energy : goal.returns-in-Energy
returns-in-Energy c = rw (c.containing-in-Energy.ensures, c.in-Energy.is)

pub returns-in-GearDiagnostics : goal.returns-in-GearDiagnostics
returns-in-GearDiagnostics c = rw (c.containing-in-GearDiagnostics.ensures, c.in-GearDiagnostics.is)

pub returns-in-SourceDiagnostics : goal.returns-in-SourceDiagnostics
returns-in-SourceDiagnostics c = rw (c.containing-in-SourceDiagnostics.ensures, c.in-SourceDiagnostics.is)

pub returns-in-Maintenance : goal.returns-in-Maintenance
returns-in-Maintenance c = rw (c.containing-in-Maintenance.ensures, c.in-Maintenance.is)

pub returns-in-Missing : goal.returns-in-Missing
unfolding first_with
returns-in-Missing c = rw c.in-Missing.is
