-- `bank::layout::chunk_len` meets its contract, map by map.
-- Assumes nothing.
use Rattle.std.proofs.Common.{sym, ◌∙◌}
use Rattle.bank.specs.Chunk.{fields_from, whole_fields, chunk_len}
use Rattle.bank.proofs.layout.chunk_len.Goals as goal

pub returns-in-LuminaireInfo : goal.returns-in-LuminaireInfo
unfolding chunk_len
returns-in-LuminaireInfo c = rw (c.chunk_of.ensures, c.min-limit.ensures, sym c.map_of.ensures, c.in-LuminaireInfo.is)

pub returns-in-Energy : goal.returns-in-Energy
unfolding chunk_len
returns-in-Energy c = rw (c.chunk_of-in-Energy.ensures, c.min-limit.ensures, sym c.map_of.ensures, c.in-Energy.is)

pub returns-in-GearDiagnostics : goal.returns-in-GearDiagnostics
unfolding chunk_len
returns-in-GearDiagnostics c = rw (c.chunk_of-in-GearDiagnostics.ensures, c.min-limit.ensures, sym c.map_of.ensures, c.in-GearDiagnostics.is)

pub returns-in-SourceDiagnostics : goal.returns-in-SourceDiagnostics
unfolding chunk_len
returns-in-SourceDiagnostics c = rw (c.chunk_of-in-SourceDiagnostics.ensures, c.min-limit.ensures, sym c.map_of.ensures, c.in-SourceDiagnostics.is)

pub returns-in-Maintenance : goal.returns-in-Maintenance
unfolding chunk_len
returns-in-Maintenance c = rw (c.chunk_of-in-Maintenance.ensures, c.min-limit.ensures, sym c.map_of.ensures, c.in-Maintenance.is)

pub returns-in-Missing : goal.returns-in-Missing
unfolding chunk_len fields_from whole_fields
returns-in-Missing c = c.min-limit.ensures ∙ (rw (sym c.map_of.ensures, c.in-Missing.is))
