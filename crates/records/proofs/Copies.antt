-- Laws of bytes that are copied into a slice, as far as it goes.
-- Assumes nothing.
use mathlib.Core.Path.{◌≡◌, sym, ap, ◌∙◌}
use mathlib.Core.List.{List, ◌++◌}
use Prim.Native.Nat.{ℕ, ◌+◌, ◌-◌, ◌≤◌, min}
use native.Mathlib.Omega.{arith}
use borrow.Author.Tests.{ltb-true, ltb-false}
use lib.Dec.{ltb}
use lib.ListN.{length, take, drop}
use lib.Seq.{sets, sets-eq, take_all, length-take-le}
use Rattle.bus.proofs.Tests.{by_test}
use Rattle.bank.specs.ReadOut.{laid}
use Rattle.bank.proofs.Reading.{part_laid}
use Rattle.records.proofs.Laying.{sets_full}

-- as many elements as there is room for, copied over a part of the slice
pub part_stored : (l : List ℕ) (at : ℕ) (xs : List ℕ) {n : ℕ} {new : List ℕ} → n ≡ min (length xs) (length l - at) → new ≡ take n xs → at ≤ length l
    → take at l ++ (new ++ drop (at + n - at) (drop at l)) ≡ sets l at xs
unfolding laid
part_stored l at xs {n} is new h =
    let count : length (take n xs) ≡ n = length-take-le n xs (omega arith) in
    let all : sets l at (take n xs) ≡ sets l at xs =
    by_test (ltb n (length xs))
    (λ t. sets_full l at n xs (omega arith) (omega (arith, ltb-true n (length xs) t)))
    (λ t. ap (sets l at) (take_all n xs (ltb-false n (length xs) t))) in
    part_laid l at n (take n xs) new count ∙ sym (sets-eq (take n xs) l at (omega (arith, count))) ∙ all
