-- What the inner functions of the listing print; no outside call speaks of it.
-- Assumes nothing.
use Rattle.std.specs.Prelude.{List, [], ◌∷◌, ◌++◌, ℕ}
use Rattle.stores.specs.Listing.{line}

-- the lines of stores whose offsets and values stand in lists of their own
abbrev pub lines : List ℕ → List ℕ → List ℕ
lines [] values = []
lines (o ∷ os) [] = []
lines (o ∷ os) (v ∷ vs) = line o v ++ lines os vs
