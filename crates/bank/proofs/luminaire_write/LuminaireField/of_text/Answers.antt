-- `bank::luminaire_write::LuminaireField::of_text` meets its contract, text by text.
-- Assumes nothing.
use Rattle.bank.specs.Fields.{luminaire_fields, place_of}
use Rattle.bank.proofs.luminaire_write.LuminaireField.of_text.Goals as goal

pub returns-in-LuminaireColour : goal.returns-in-LuminaireColour
unfolding place_of luminaire_fields
returns-in-LuminaireColour c = rw c.in-LuminaireColour.is

pub returns-in-LuminaireIdentification : goal.returns-in-LuminaireIdentification
unfolding place_of luminaire_fields
returns-in-LuminaireIdentification c = rw c.in-LuminaireIdentification.is

pub returns-in-LightDistribution : goal.returns-in-LightDistribution
unfolding place_of luminaire_fields
returns-in-LightDistribution c = rw c.in-LightDistribution.is

pub returns-in-OemName : goal.returns-in-OemName
unfolding place_of luminaire_fields
returns-in-OemName c = rw c.in-OemName.is

pub returns-in-CustomerStockingNumber : goal.returns-in-CustomerStockingNumber
unfolding place_of luminaire_fields
returns-in-CustomerStockingNumber c = rw c.in-CustomerStockingNumber.is

pub returns-in-FreeUse : goal.returns-in-FreeUse
unfolding place_of luminaire_fields
returns-in-FreeUse c = rw c.in-FreeUse.is
