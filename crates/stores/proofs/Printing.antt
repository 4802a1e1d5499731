-- Laws of reading and writing: what is printed for the bytes that a reader has comes behind those that a writer holds.
-- Assumes nothing.
use Rattle.std.specs.Prelude.{◌≡◌, ℕ, ◌<◌, ◌≤◌, List, ◌++◌, length, take, ltb, Option, Some, None, Result, Ok, Err, IfSome, OnErr, OnOk}
use Rattle.std.specs.Io.KnownBytes.{Appends, Consumes, IsAtEnd}
use Rattle.std.proofs.Common.{sym, ap, ◌∙◌, subst, arith, append-nil, length-take-le, take_all, take_at}
use Rattle.std.proofs.lemmas.Bool.{ltb-true, ltb-false}
use Rattle.bus.proofs.Tests.{by_test}
use Rattle.stores.specs.Listing.{printed}

-- a slice that is full, or holds all that a reader had
pub read : (known left : Option (List ℕ)) (block : List ℕ) (n m : ℕ) → length block ≡ m → n ≤ length block → Consumes known left (take n block) → (n < length block → IsAtEnd left) → IfSome known (λ xs. take n block ≡ take m xs)
read None left block n m e h bytes end = tt
read (Some xs) None block n m e h bytes end = absurd bytes
read (Some xs) (Some ys) block n m e h bytes end =
    by_test (ltb n m)
    (λ t.
    let short : n < length block = omega (arith, ltb-true n m t, e) in
    let all : xs ≡ take n block = bytes ∙ ap (λ l. take n block ++ l) (end short) ∙ append-nil (take n block) in
    sym (take_all m xs (omega (arith, ap length all, length-take-le n block h, short, e)) ∙ all))
    (λ t.
    let full : n ≡ m = omega (arith, ltb-false n m t, e, h) in
    sym (ap (take m) bytes ∙ take_at (take n block) ys m (length-take-le n block h ∙ full)))

-- what is written
pub written : {E : Type 0} (r : Result (Unit {0}) E) (known old new : Option (List ℕ)) (file : List ℕ) {bytes : List ℕ} → OnOk r (Appends old new bytes) → bytes ≡ printed file → IfSome known (λ xs. file ≡ take 4096 xs) → OnOk r (IfSome known (λ xs. Appends old new (printed (take 4096 xs))))
written (Err e) known old new file a b c = tt
written (Ok u) None old new file a b c = tt
written (Ok u) (Some xs) old new file a b c =
    subst (λ (bs : List ℕ). Appends old new bs) (b ∙ ap printed c) a

-- what an error leaves
pub cut_off : {E : Type 0} (r : Result (Unit {0}) E) (known old new : Option (List ℕ)) (file : List ℕ) {bytes : List ℕ} → OnErr r ((k : ℕ) × Appends old new (take k bytes)) → bytes ≡ printed file → IfSome known (λ xs. file ≡ take 4096 xs) → OnErr r (IfSome known (λ xs. (k : ℕ) × Appends old new (take k (printed (take 4096 xs)))))
cut_off (Ok u) known old new file a b c = tt
cut_off (Err e) None old new file a b c = tt
cut_off (Err e) (Some xs) old new file a b c =
    (a.0, subst (λ (bs : List ℕ). Appends old new (take a.0 bs)) (b ∙ ap printed c) a.1)
