-- Laws of reading and writing: what one more call takes comes behind what the calls before it have taken.
-- Assumes nothing.
use Rattle.std.specs.Prelude.{ℕ, ◌+◌, ◌-◌, ◌≤◌, List, ◌++◌, length, take, drop, Option}
use Rattle.std.specs.Io.KnownBytes.{Appends, Consumes}
use Rattle.std.proofs.Common.{sym, ap, ◌∙◌, subst, drop_at, length-take-le}
use Rattle.std.proofs.KnownBytes.{Appends-trans, Consumes-trans}
use Rattle.std.proofs.lemmas.List.{take-append-le, take_rest}
use borrow.Rule.Slice.PartMut.{put_mid, post_of, take_put}
use lib.Seq.{take-add}

-- what a read gives stands behind what is filled
pub filled : (a b c : Option (List ℕ)) (block part : List ℕ) (k n count : ℕ) → n ≤ length block → count ≤ length part → Consumes a b (take n block) → Consumes b c (take count part) → Consumes a c (take (n + count) (put_mid n k block part))
filled a b c block part k n count h fits front read =
    let rest = post_of n k block in
    let new = put_mid n k block part in
    let more = ap (take count) (drop_at (take n block) (part ++ rest) n (length-take-le n block h)) ∙ take-append-le count part rest fits in
    subst (Consumes a c) (sym (take-add n count new ∙ ap (λ l. l ++ take count (drop n new)) (take_put n k block part h) ∙ ap (λ l. take n block ++ l) more)) (Consumes-trans a b c _ _ front read)

-- what one write appends behind what is written
pub appended : (a b c : Option (List ℕ)) (text : List ℕ) (n count : ℕ) → Appends a b (take n text) → Appends b c (take count (take (length text - n) (drop n text))) → Appends a c (take (n + count) text)
appended a b c text n count front more =
    subst (Appends a c) (ap (λ l. take n text ++ take count l) (take_rest text n) ∙ sym (take-add n count text)) (Appends-trans a b c _ _ front more)
