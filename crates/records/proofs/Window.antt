-- Laws of an identity: the parts of its window, the window of bank 0, and its theorem.
-- Assumes nothing.
use Rattle.std.proofs.lemmas.Option.{same_Some}
use Rattle.std.specs.Prelude.{None, Option, Some, option_map}
use mathlib.Core.Path.{◌≡◌, refl, ◌∙◌, sym, ap}
use mathlib.Core.Bool.{cond}
use mathlib.Core.List.{List, [], ◌∷◌}
use Prim.Native.Nat.{ℕ, ◌≤◌, ◌<◌, ◌+◌, zero-le}
use native.Mathlib.Nat.{not-suc-le-zero}
use native.Mathlib.Omega.{arith}
use borrow.Author.Tests.{eq-eqb, lt-ltb, le-ltb, lt-leb, le-leb, leb-true, leb-false, ltb-true, ltb-false}
use lib.Dec.{ltb, eqb, leb}
use lib.ListN.{length, get_or, take, drop, length-drop}
use lib.Seq.{drop-cons, length-take-le}
use Rattle.bus.specs.Number.{number}
use Rattle.bus.specs.Value.{bytes_at}
use Rattle.bus.proofs.Lists.{no_element}
use Rattle.bus.proofs.Tests.{by_test}
use Rattle.records.specs.declared.identity.IdentityRead.{IdentityRead}
use Rattle.records.specs.declared.identity.IdentityRead.TheVariants.{Unread, Known}
use Rattle.records.specs.declared.identity.DeviceIdentity.{DeviceIdentity}
use Rattle.records.specs.Places.{unless_ff, field_at, number_at, all_ff}
use Rattle.records.specs.Identity.{identity_of, known_if, of_window, of_part, of_bank0, identity, AsRecorded, EveryIdentityKnownExactly}
use Rattle.records.specs.Records.{bank0_identity}
use Rattle.records.proofs.Places.{whole, part_reads_as_bank, behind}

-- a window says what its three parts say
pub in_window : {gtin number index : List ℕ} (window : List ℕ) → length window ≡ 24
    → gtin ≡ take 6 (drop 0 window) → number ≡ take 8 (drop 8 window) → index ≡ take 1 (drop 23 window)
    → of_window window ≡ known_if (identity_of (unless_ff (Some gtin)) (unless_ff (Some number)) (unless_ff (Some index)))
in_window window h g n i =
    rw (eq-eqb (length window) 24 h, whole 3 window 3 6 (omega arith) (omega arith), whole 3 window 11 8 (omega arith) (omega arith), whole 3 window 26 1 (omega arith) (omega arith), g, n, i)

-- a part of one byte
pub one_byte : {part : List ℕ} (bytes : List ℕ) (o : ℕ) → o < length bytes → part ≡ take 1 (drop o bytes) → get_or part 0 0 ≡ number part
unfolding number
one_byte bytes o h e = rw (e, drop-cons bytes o 0 h) (omega arith)

-- the window of bank 0
module _ (bank : List ℕ) where
  pub no_bytes : length bank ≡ 0 → of_bank0 bank ≡ Unread
  no_bytes e = by bank e
    where
      by : (b : List ℕ) → length b ≡ 0 → of_bank0 b ≡ Unread
      by [] e = refl
      by (x ∷ xs) e = let z : ⊥ = omega arith in absurd z

  -- with a first byte, it goes by that byte and by the window
  pub by_first : 0 < length bank → of_bank0 bank ≡ cond (ltb (get_or bank 0 0) 26) IdentityRead.Unprovable (of_part (bytes_at 3 24 bank))
  by_first h = by bank h
    where
      by : (b : List ℕ) → 0 < length b → of_bank0 b ≡ cond (ltb (get_or b 0 0) 26) IdentityRead.Unprovable (of_part (bytes_at 3 24 b))
      by [] h = absurd (not-suc-le-zero h)
      by (x ∷ xs) h = refl

  pub too_short : 0 < length bank → get_or bank 0 0 < 26 → of_bank0 bank ≡ IdentityRead.Unprovable
  too_short h k = by_first h ∙ rw (lt-ltb (get_or bank 0 0) 26 k)

  pub cut_short : 0 < length bank → 26 ≤ get_or bank 0 0 → length bank < 27 → of_bank0 bank ≡ Unread
  cut_short h k l = by_first h ∙ rw (le-ltb (get_or bank 0 0) 26 k, lt-leb 27 (length bank) l)

  pub its_window : 26 ≤ get_or bank 0 0 → 27 ≤ length bank → of_bank0 bank ≡ of_window (take 24 (drop 3 bank))
  its_window k l = by_first (omega arith) ∙ rw (le-ltb (get_or bank 0 0) 26 k, le-leb 27 (length bank) l)

-- ---- a known identity is the one in the record

-- the identity that is known, if any
abbrev known : IdentityRead → Option DeviceIdentity
known Unread = None
known IdentityRead.Unprovable = None
known (Known d) = Some d

known_if_lem : (o : Option DeviceIdentity) → known (known_if o) ≡ o
known_if_lem None = refl
known_if_lem (Some d) = refl

-- all three parts of it are there
all_there : (g n i : Option ℕ) (d : DeviceIdentity) → identity_of g n i ≡ Some d → (g ≡ Some d.gtin) × (n ≡ Some d.identification_number) × (i ≡ Some d.logical_gear_index)
all_there None n i d e = no_element e
all_there (Some g) None i d e = no_element e
all_there (Some g) (Some n) None d e = no_element e
all_there (Some g) (Some n) (Some i) d e =
    let same : identity g n i ≡ d = same_Some _ _ e in
    (ap (λ (x : DeviceIdentity). Some x.gtin) same, ap (λ (x : DeviceIdentity). Some x.identification_number) same, ap (λ (x : DeviceIdentity). Some x.logical_gear_index) same)

-- what the window says, it says of bank 0
known_in_window : (bank : List ℕ) (d : DeviceIdentity) → of_bank0 bank ≡ Known d → of_window (take 24 (drop 3 bank)) ≡ Known d
known_in_window bank d e =
    by_test (leb 1 (length bank))
    (λ s.
    let h = leb-true 1 (length bank) s in
    by_test (ltb (get_or bank 0 0) 26)
    (λ t. no_element (ap known (sym (too_short bank h (ltb-true (get_or bank 0 0) 26 t)) ∙ e)))
    (λ t.
    let k = ltb-false (get_or bank 0 0) 26 t in
    by_test (leb 27 (length bank))
    (λ l. sym (its_window bank k (leb-true 27 (length bank) l)) ∙ e)
    (λ l. no_element (ap known (sym (cut_short bank h k (leb-false 27 (length bank) l)) ∙ e)))))
    (λ s.
    let empty : length bank ≡ 0 = omega (arith, leb-false 1 (length bank) s) in
    no_element (ap known (sym (no_bytes bank empty) ∙ e)))

-- a number that is there, in a part of bank 0 and in all of it
module _ (bank : List ℕ) (o n : ℕ) (v : ℕ) (some_bytes : 1 ≤ n) where
  number_in_bank : number_at 3 (take 24 (drop 3 bank)) o n ≡ Some v → (bs : List ℕ) × ((field_at 0 bank o n ≡ Some bs) × (unless_ff (Some bs) ≡ Some v))
  number_in_bank e = by (field_at 3 (take 24 (drop 3 bank)) o n) refl
    where
      by : (f : Option (List ℕ)) → field_at 3 (take 24 (drop 3 bank)) o n ≡ f → (bs : List ℕ) × ((field_at 0 bank o n ≡ Some bs) × (unless_ff (Some bs) ≡ Some v))
      by None f = no_element (ap unless_ff (sym f) ∙ e)
      by (Some bs) f = (bs, ((part_reads_as_bank bank 3 24 o n some_bytes).of_bank f, ap unless_ff (sym f) ∙ e))

-- its number is that of its bytes
number_is : (bs : List ℕ) {v : ℕ} → unless_ff (Some bs) ≡ Some v → Some (number bs) ≡ Some v
number_is bs e =
    by_test (all_ff bs)
    (λ t. no_element (rw t at e))
    (λ t. rw t at e)

as_recorded : (bank : List ℕ) (d : DeviceIdentity) → of_bank0 bank ≡ Known d → AsRecorded d (bank0_identity 0 bank)
as_recorded bank d e =
    let window = take 24 (drop 3 bank) in
    let k = known_in_window bank d e in
    by_test (eqb (length window) 24)
    (λ t.
    let its : known_if (identity_of (number_at 3 window 3 6) (number_at 3 window 11 8) (number_at 3 window 26 1)) ≡ Known d = rw t at k in
    let parts = all_there (number_at 3 window 3 6) (number_at 3 window 11 8) (number_at 3 window 26 1) d (sym (known_if_lem _) ∙ ap known its) in
    let g = number_in_bank bank 3 6 d.gtin (omega arith) parts.0 in
    let n = number_in_bank bank 11 8 d.identification_number (omega arith) parts.1 in
    let i = number_in_bank bank 26 1 d.logical_gear_index (omega arith) parts.2 in
    record {
      gtin = ap (λ (f : Option (List ℕ)). (unless_ff f)) g.1.0 ∙ g.1.1;
      number = ap (λ (f : Option (List ℕ)). (unless_ff f)) n.1.0 ∙ n.1.1;
      index = ap (λ (f : Option (List ℕ)). (option_map number f)) i.1.0 ∙ (number_is i.0 i.1.1);
    })
    (λ t. no_element (ap known (rw t at k)))

-- a part of an identity that is there, is in the window
there_to : (bank : List ℕ) {v : ℕ} → number_at 0 bank 26 1 ≡ Some v → 27 ≤ length bank
there_to bank e =
    by_test (leb 27 (length bank))
    (λ t. leb-true 27 (length bank) t)
    (λ t. no_element (ap unless_ff (sym (behind 0 bank 26 1 zero-le (leb-false 27 (length bank) t))) ∙ e))

in_window_as_in_bank : (bank : List ℕ) (o n : ℕ) → 27 ≤ length bank → 3 ≤ o → o + n ≤ 27 → 1 ≤ n → number_at 3 (take 24 (drop 3 bank)) o n ≡ number_at 0 bank o n
in_window_as_in_bank bank o n l h k some_bytes =
    let f = whole 0 bank o n zero-le (omega arith) in
    ap unless_ff ((part_reads_as_bank bank 3 24 o n some_bytes).present h k f ∙ sym f)

known_if_there : (bank : List ℕ) {g n i : ℕ} → 26 ≤ get_or bank 0 0 → number_at 0 bank 3 6 ≡ Some g → number_at 0 bank 11 8 ≡ Some n → number_at 0 bank 26 1 ≡ Some i → of_bank0 bank ≡ Known (identity g n i)
known_if_there bank h g n i =
    let l = there_to bank i in
    let w = take 24 (drop 3 bank) in
    let long : length w ≡ 24 = length-take-le 24 (drop 3 bank) (rw (length-drop 3 bank) (omega arith)) in
    its_window bank h l
    ∙ rw (
      eq-eqb (length w) 24 long,
      in_window_as_in_bank bank 3 6 l (omega arith) (omega arith) (omega arith) ∙ g,
      in_window_as_in_bank bank 11 8 l (omega arith) (omega arith) (omega arith) ∙ n,
      in_window_as_in_bank bank 26 1 l (omega arith) (omega arith) (omega arith) ∙ i,
    )

pub every_identity_known_exactly : EveryIdentityKnownExactly
every_identity_known_exactly bank = record { as_recorded = λ {d} e. as_recorded bank d e; known = known_if_there bank }
