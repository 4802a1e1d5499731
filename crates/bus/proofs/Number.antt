-- Laws of the number that bytes make, and of a number's low bytes.
-- Assumes nothing.
use mathlib.Core.Path.{◌≡◌, refl, sym, ap, ◌∙◌}
use mathlib.Core.List.{List, [], ◌∷◌, ◌++◌}
use Prim.Native.Nat.{ℕ, zero, suc, ◌+◌, ◌-◌, ◌*◌, ◌%◌, ◌^◌, ◌≤◌, ◌<◌}
use native.Mathlib.Nat.{mul_assoc}
use native.Mathlib.Numerals.{add-one}
use native.Mathlib.Omega.{arith}
use lib.ListN.{length, get_or, take, drop, length-append, length-take}
use lib.Seq.{take-suc, take_all, drop-cons}
use lib.Pow.{pow-add, mod-pow-add}
use Rattle.bus.specs.Number.{number, low_bytes}

-- one byte more makes 256 times as many numbers
pub pow_byte : (k : ℕ) → 2 ^ (8 * (k + 1)) ≡ 2 ^ (8 * k) * 256
pow_byte k =
    let e : 8 * (k + 1) ≡ 8 * k + 8 = omega arith in
    ap (λ (n : ℕ). 2 ^ n) e ∙ pow-add 2 (8 * k) 8

-- one byte behind the others
pub number_snoc : (bs : List ℕ) (b : ℕ) → number (bs ++ (b ∷ [])) ≡ number bs * 256 + b
unfolding number
number_snoc [] b = omega arith
number_snoc (x ∷ bs) b =
    let p : 2 ^ (8 * length (bs ++ (b ∷ []))) ≡ 2 ^ (8 * length bs) * 256 = rw (length-append bs (b ∷ [])) (pow_byte (length bs)) in
    let r : number (bs ++ (b ∷ [])) ≡ number bs * 256 + b = number_snoc bs b in
    rw (p, r) (omega (arith, mul_assoc x (2 ^ (8 * length bs)) 256))

pub number_next : (bs : List ℕ) (i : ℕ) → i < length bs → number (take (i + 1) bs) ≡ number (take i bs) * 256 + get_or bs i 0
number_next bs i h = ap number (rw (add-one, take-suc bs i 0 h)) ∙ number_snoc (take i bs) (get_or bs i 0)

-- at most eight bytes
pub number_few : (bs : List ℕ) → length bs ≤ 8 → number (take 8 bs) ≡ number bs
number_few bs h = ap number (take_all 8 bs h)

-- a part of at most eight, as it is lent
pub number_part : (bs : List ℕ) (o n : ℕ) → n ≤ 8 → number (take 8 (take (o + n - o) (drop o bs))) ≡ number (take n (drop o bs))
number_part bs o n h =
    let all : o + n - o ≡ n = omega arith in
    ap (λ (k : ℕ). number (take 8 (take k (drop o bs)))) all ∙ number_few (take n (drop o bs)) (omega (arith, length-take n (drop o bs)))

pub number_one : (bs : List ℕ) (o : ℕ) → o < length bs → number (take 1 (drop o bs)) ≡ get_or bs o 0
unfolding number
number_one bs o h = rw (drop-cons bs o 0 h) (omega arith)

pub length_low_bytes : (n v : ℕ) → length (low_bytes n v) ≡ n
unfolding low_bytes
length_low_bytes zero v = refl
length_low_bytes (suc n) v = ap suc (length_low_bytes n v)

-- the low bytes make the remainder by their range
pub number_low_bytes : (n v : ℕ) → number (low_bytes n v) ≡ v % 2 ^ (8 * n)
unfolding number low_bytes
number_low_bytes zero v = omega arith
number_low_bytes (suc n) v =
    let e : 8 + 8 * n ≡ 8 * suc n = omega arith in
    rw (length_low_bytes n v, number_low_bytes n v) (sym (mod-pow-add v 8 (8 * n)) ∙ ap (λ (k : ℕ). v % 2 ^ k) e)
