-- 01, "A cut plan, read back": what a cut leaves of a plan's stores in a bank, and which of them are a field's.
-- Assumes nothing.
use Rattle.std.specs.Prelude.{◌≡◌, List, [], ◌∷◌, ℕ, ◌-◌, length, take, drop, set, None, Option, Some, slice_get}
use Rattle.bank.specs.declared.luminaire_write.LuminaireField.{LuminaireField}
use Rattle.bank.specs.Fields.{luminaire_fields}
use Rattle.records.specs.declared.luminaire_write.Plan.{Plan}
use Rattle.records.specs.Writes.{Store, gather, stores_at}
use Rattle.records.specs.Plan.{stores_of}

-- "A store is made whole or not at all, in the list's order": stores, which "have put their value at their offset, and every
-- other byte is as before"
abbrev pub stored : List Store → List ℕ → List ℕ
stored [] bank = bank
stored (s ∷ ss) bank = stored ss (set bank s.offset s.value)

-- "A cut is a number from 0 to the count of stores: that many, from the first"
abbrev pub cut_bank : List Store → ℕ → List ℕ → List ℕ
cut_bank ss k old = stored (take k ss) old

abbrev stores_in : Plan → List ℕ → ℕ → Option LuminaireField → List Store
stores_in p text i None = []
stores_in p text i (Some f) = stores_at p.numbers p.text_field text i f

module _ (p : Plan) (text : List ℕ) where
  -- "A field's stores are those of its write."
  abbrev pub stores_for : ℕ → List Store
  stores_for i = stores_in p text i (slice_get luminaire_fields i)

  -- how many stores stand before those of a field in the list
  abbrev pub before : ℕ → ℕ
  before i = length (gather (stores_at p.numbers p.text_field text) (take i luminaire_fields))

  -- the stores of a field that a cut takes in
  abbrev pub taken_in : ℕ → ℕ → List Store
  taken_in k i = take (k - before i) (stores_for i)

-- The stores of a field stand together in the list, behind those of the fields before it: so a cut takes in the first of them.
abbrev pub EveryFieldHasItsShare : Type 0
EveryFieldHasItsShare =
    (p : Plan) (text : List ℕ) (k i : ℕ) →
    take (length (stores_for p text i)) (drop (before p text i) (take k (stores_of p text))) ≡ taken_in p text k i
