-- Laws of a chunk's length: how the fields from an offset on are found in a map, and how a walk along them adds them up.
-- Assumes nothing.
use Rattle.std.specs.Prelude.{None, Some, position}
use Rattle.std.specs.List.{position_or_len}
use Rattle.std.proofs.lemmas.Option.{same_Some}
use mathlib.Core.Path.{◌≡◌, refl, sym, ap, ◌∙◌}
use mathlib.Core.Bool.{Bool}
use mathlib.Core.List.{List, [], ◌∷◌}
use Prim.Native.Nat.{ℕ, suc, ◌+◌, ◌≤◌, ◌<◌}
use borrow.Author.Tests.{le-leb, lt-leb, ltb-false}
use lib.Dec.{eqb, ltb}
use lib.ListN.{length, drop, drop_of_length-le}
use native.Mathlib.Omega.{arith}
use Rattle.bus.proofs.Tests.{by_test}
use Rattle.bus.proofs.Lists.{no_element}
use Rattle.bus.specs.declared.layout.BankField.{BankField}
use Rattle.bus.specs.Width.{bytes_of}
use Rattle.bank.specs.Chunk.{fields_from, with_further, whole_fields}

-- a field starts at the offset
abbrev pub is_start : ℕ → BankField → Bool
is_start o x = eqb x.offset o

-- the fields from the offset on are those from the first that starts there
from_first : (o : ℕ) (xs : List BankField) → fields_from o xs ≡ drop (position_or_len (is_start o) xs) xs
unfolding fields_from
from_first o [] = refl
from_first o (x ∷ xs) =
    let behind = position_or_len (is_start o) xs in
    let one_more : suc behind ≡ 1 + behind = omega arith in
    by_test (eqb x.offset o) (λ t. rw t) (λ t. rw t (from_first o xs ∙ ap (λ (k : ℕ). drop k (x ∷ xs)) one_more))

-- where a search gives the place of that field, and where it gives none
pub from_found : {i : ℕ} (o : ℕ) (xs : List BankField) → position (is_start o) xs ≡ Some i → drop i xs ≡ fields_from o xs
from_found {i} o xs e =
    let first = position_or_len (is_start o) xs in
    by_test (ltb first (length xs))
    (λ t. sym (from_first o xs ∙ ap (λ (k : ℕ). drop k xs) (same_Some _ _ (rw t at e))))
    (λ t. no_element (rw t at e))

pub from_none : (o : ℕ) (xs : List BankField) → position (is_start o) xs ≡ None → [] ≡ fields_from o xs
from_none o xs e =
    let first = position_or_len (is_start o) xs in
    by_test (ltb first (length xs))
    (λ t. no_element (sym (rw t at e)))
    (λ t. sym (from_first o xs ∙ drop_of_length-le xs {i = first} (ltb-false _ _ t)))

-- the walk stands at field x, the first of those that are left
module _ {x : BankField} {left rest : List BankField} (here : left ≡ x ∷ rest) where
  pub further_fits : (limit taken : ℕ) → taken + bytes_of x.width ≤ limit → with_further limit taken left ≡ with_further limit (taken + bytes_of x.width) rest
  unfolding with_further
  further_fits limit taken h = rw (here, le-leb (taken + bytes_of x.width) limit h)

  pub further_stops : (limit taken : ℕ) → limit < taken + bytes_of x.width → with_further limit taken left ≡ taken
  unfolding with_further
  further_stops limit taken h = rw (here, lt-leb (taken + bytes_of x.width) limit h)

  -- the chunk, where x is the first field from the offset on
  pub chunk_smaller : (remaining limit : ℕ) → remaining < bytes_of x.width → whole_fields remaining limit left ≡ limit
  unfolding whole_fields
  chunk_smaller remaining limit h = rw (here, lt-leb (bytes_of x.width) remaining h)

  pub chunk_whole : (remaining limit : ℕ) → bytes_of x.width ≤ remaining → whole_fields remaining limit left ≡ with_further limit (bytes_of x.width) rest
  unfolding whole_fields
  chunk_whole remaining limit h = rw (here, le-leb (bytes_of x.width) remaining h)

-- nothing is left of the map
module _ {left : List BankField} (end : left ≡ []) where
  pub further_end : (limit taken : ℕ) → with_further limit taken left ≡ taken
  unfolding with_further
  further_end limit taken = rw end

  pub chunk_end : (remaining limit : ℕ) → whole_fields remaining limit left ≡ limit
  unfolding whole_fields
  chunk_end remaining limit = rw end
