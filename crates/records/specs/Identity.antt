-- 01, "The records": "`IdentityRead::of_bank0`".
-- Assumes nothing.
use Rattle.std.specs.Prelude.{◌≡◌, cond, List, [], ◌∷◌, ℕ, ◌+◌, ◌-◌, ◌≤◌, eqb, ltb, length, get_or, Err, None, Ok, Option, Result, Some, option_and_then, option_map}
use Rattle.bus.specs.Value.{bytes_at}
use Rattle.records.specs.declared.identity.DeviceIdentity.{DeviceIdentity}
use Rattle.records.specs.declared.identity.IdentityRead.{IdentityRead}
use Rattle.records.specs.declared.identity.IdentityRead.TheVariants.{Unread, Known}
use Rattle.records.specs.declared.identity.IdentityCause.{IdentityCause}
use Rattle.records.specs.declared.memory_bank_parser.ParsedMemoryIdentity.{ParsedMemoryIdentity}
use Rattle.records.specs.Places.{number_at}
use Rattle.records.specs.Records.{bank0_identity}

abbrev pub identity : ℕ → ℕ → ℕ → DeviceIdentity
identity gtin number index = record { gtin = gtin; identification_number = number; logical_gear_index = index }

-- an identity is known where none of its parts is absent
abbrev pub identity_of : Option ℕ → Option ℕ → Option ℕ → Option DeviceIdentity
identity_of gtin number index = option_and_then (λ g. option_and_then (λ n. option_map (λ i. identity g n i) index) number) gtin

abbrev pub known_if : Option DeviceIdentity → IdentityRead
known_if None = IdentityRead.Unprovable
known_if (Some d) = Known d

-- "bytes 03 to 1A hex"
abbrev window_len : ℕ
window_len = 0x1A + 1 - 0x03

-- "bytes 03 to 1A hex not all present, unread; GTIN, number or index all FF hex, unprovable; else known"
abbrev pub of_window : List ℕ → IdentityRead
of_window window =
    cond (eqb (length window) window_len)
    (known_if (identity_of (number_at 0x03 window 0x03 6) (number_at 0x03 window 0x0B 8) (number_at 0x03 window 0x1A 1))) Unread

abbrev pub of_part : Option (List ℕ) → IdentityRead
of_part None = Unread
of_part (Some window) = of_window window

-- "empty, unread; first byte below 1A hex, unprovable; .."
abbrev pub of_bank0 : List ℕ → IdentityRead
of_bank0 [] = Unread
of_bank0 (last ∷ bytes) = cond (ltb last 0x1A) IdentityRead.Unprovable (of_part (bytes_at 0x03 window_len (last ∷ bytes)))

-- the identity that is known, or why none is
abbrev pub known_of : IdentityRead → Result DeviceIdentity IdentityCause
known_of Unread = Err IdentityCause.Unknown
known_of IdentityRead.Unprovable = Err IdentityCause.Unprovable
known_of (Known d) = Ok d

-- A known identity is the one in the record of bank 0.
pub record AsRecorded (d : DeviceIdentity) (r : ParsedMemoryIdentity) : Type 0 where
  pub gtin : r.gtin ≡ (Some d.gtin)
  pub number : r.identification_number ≡ (Some d.identification_number)
  pub index : r.logical_control_gear_index ≡ (Some d.logical_gear_index)

-- And one whose parts are all there is known.
pub record KnownExactly (bank : List ℕ) : Type 0 where
  pub as_recorded : {d : DeviceIdentity} → of_bank0 bank ≡ Known d → AsRecorded d (bank0_identity 0 bank)
  pub known :
      {g n i : ℕ} → 0x1A ≤ get_or bank 0 0 → number_at 0 bank 0x03 6 ≡ Some g → number_at 0 bank 0x0B 8 ≡ Some n →
      number_at 0 bank 0x1A 1 ≡ Some i → of_bank0 bank ≡ Known (identity g n i)

abbrev pub EveryIdentityKnownExactly : Type 0
EveryIdentityKnownExactly = (bank : List ℕ) → KnownExactly bank
