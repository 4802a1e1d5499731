-- 01, "May the field be written": what a colour temperature and a distribution type say, shown or not.
-- Assumes nothing.
use Rattle.std.specs.Prelude.{◌≡◌, Bool, true, not, cond, ◌&&◌, ℕ, eqb}
use Rattle.bus.specs.declared.part251.LuminaireFormat.{LuminaireFormat}
use Rattle.bus.specs.declared.part251.LuminaireFormat.TheVariants.{V3}
use Rattle.bank.specs.declared.luminaire_write.NumberRule.{NumberRule}
use Rattle.bank.specs.declared.part251.CctReading.{CctReading}
use Rattle.bank.specs.declared.part251.CctReading.TheVariants.{Kelvin, Part209Implemented}
use Rattle.bank.specs.declared.part251.LightDistributionType.{LightDistributionType}
use Rattle.bank.specs.declared.part251.LightDistributionType.TheVariants.{NotSpecified, «Type», EmergencyLuminaire, Other, Reserved}
use Rattle.bank.specs.Rules.{shows}

-- "colour temperature 0 to 17000, while 65534 says part 209 is implemented": which numbers each case of `CctReading` says
abbrev pub cct_says : CctReading → ℕ → Bool
cct_says (Kelvin k) n = shows NumberRule.Cct V3 k && eqb n k
cct_says Part209Implemented n = eqb n 65534
cct_says CctReading.Unknown n = not (shows NumberRule.Cct V3 n) && not (eqb n 65534)

abbrev pub cct_of : ℕ → CctReading
cct_of n = cond (cct_says (Kelvin n) n) (Kelvin n) (cond (cct_says Part209Implemented n) Part209Implemented CctReading.Unknown)

-- What is said of a number says the number, and no other case does.
pub record SaidExactly (n : ℕ) : Type 0 where
  pub said : cct_says (cct_of n) n ≡ true
  pub only : (c : CctReading) → cct_says c n ≡ true → c ≡ cct_of n

abbrev pub EveryTemperatureSaid : Type 0
EveryTemperatureSaid = (n : ℕ) → SaidExactly n

-- the number of each case of `LightDistributionType` (IEC 62386-251; the names are those of `part251.rs`)
abbrev pub type_number : LightDistributionType → ℕ
type_number NotSpecified = 0
type_number («Type» n) = n
type_number EmergencyLuminaire = 253
type_number Other = 254
type_number (Reserved n) = n
type_number LightDistributionType.Unknown = 255

-- a number that is shown says the case that it is the number of
abbrev shown_type : ℕ → LightDistributionType
shown_type n =
    cond (eqb n (type_number NotSpecified)) NotSpecified
    (cond (eqb n (type_number EmergencyLuminaire)) EmergencyLuminaire
    (cond (eqb n (type_number Other)) Other («Type» n)))

-- "distribution type 0 to 5, and from format 4 also 6, 253, 254": any other number is reserved, and 255 says nothing
abbrev pub type_of : LuminaireFormat → ℕ → LightDistributionType
type_of v n =
    cond (shows NumberRule.LightDistributionType v n) (shown_type n)
    (cond (eqb n (type_number LightDistributionType.Unknown)) LightDistributionType.Unknown (Reserved n))

-- What is said of a number tells the number again.
abbrev pub EveryTypeKept : Type 0
EveryTypeKept = (v : LuminaireFormat) (n : ℕ) → type_number (type_of v n) ≡ n
