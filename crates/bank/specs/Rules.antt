-- 01, "May the field be written": "Rules (IEC 62386-251)".
-- Assumes nothing.
use Rattle.std.specs.Prelude.{Bool, not, cond, ◌&&◌, ◌||◌, ℕ, eqb, leb, None, Option, Some}
use Rattle.bus.specs.declared.part251.LuminaireFormat.{LuminaireFormat}
use Rattle.bus.specs.declared.part251.LuminaireFormat.TheVariants.{V3, V4}
use Rattle.bus.specs.Part251.{from_format}
use Rattle.bank.specs.declared.luminaire_write.NumberRule.{NumberRule}
use Rattle.bank.specs.declared.luminaire_write.NumberRule.TheVariants.{Year, Week, Power, MainsVoltage, LightOutput, Cri, Cct, LightDistributionType, LampCurrent}

-- "year 0 to 99; week 1 to 53; power and lamp current all but 65535; mains voltage 90 to 480; light output all but
-- FFFFFF hex; CRI 0 to 100; colour temperature 0 to 17000 ..; distribution type 0 to 5, and from format 4 also 6, 253, 254"
abbrev pub shows : NumberRule → LuminaireFormat → ℕ → Bool
shows Year v n = leb n 99
shows Week v n = leb 1 n && leb n 53
shows Power v n = not (eqb n 65535)
shows MainsVoltage v n = leb 90 n && leb n 480
shows LightOutput v n = not (eqb n 0xFFFFFF)
shows Cri v n = leb n 100
shows Cct v n = leb n 17000
shows LightDistributionType v n = leb n 5 || (from_format V4 v && (eqb n 6 || (eqb n 253 || eqb n 254)))
shows LampCurrent v n = not (eqb n 65535)

-- a raw number that is shown is shown as it is: in format 3, and so in every format
abbrev pub shown : NumberRule → ℕ → Option ℕ
shown r n = cond (shows r V3 n) (Some n) None
