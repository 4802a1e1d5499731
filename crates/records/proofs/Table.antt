-- The rules of the table of fields, each computed once over the whole table.
-- Assumes nothing.
use Rattle.std.proofs.lemmas.Option.{same_Some}
use Rattle.std.specs.Prelude.{Option, Some, slice_get}
use mathlib.Core.Path.{◌≡◌, refl, subst}
use mathlib.Core.Bool.{Bool, true, ◌&&◌}
use mathlib.Core.List.{List, [], ◌∷◌, ◌++◌}
use Prim.Native.Nat.{ℕ, zero, suc, ◌+◌, ◌≤◌, ◌<◌}
use native.Mathlib.Omega.{arith}
use borrow.Author.Tests.{leb-true}
use Rattle.std.proofs.lemmas.Bool.Decides.{nat_tests}
use lib.Dec.{leb}
use lib.ListN.{length, get_or, take}
use lib.Seq.{take_all}
use Rattle.bus.proofs.Tests.{first_true, second_true}
use Rattle.bus.proofs.Lists.{no_element}
use Rattle.bank.specs.declared.luminaire_write.NumberRule.{NumberRule}
use Rattle.bank.specs.declared.luminaire_write.FieldKind.{FieldKind}
use Rattle.bank.specs.declared.luminaire_write.FieldKind.TheVariants.{LayoutId, Number, Text}
use Rattle.bank.specs.declared.luminaire_write.LuminaireField.{LuminaireField}
use Rattle.bank.specs.Fields.{luminaire_fields, field_end}
use Rattle.records.specs.declared.luminaire_write.LuminaireNumbers.{LuminaireNumbers}
use Rattle.records.specs.Writes.{gather, writes_at, planned_writes, write_stores, stores_at, plan_stores}
use Rattle.records.proofs.Gathering.{flat_gather, gather_next}

-- a test that all fields pass
abbrev pub all_pass : (LuminaireField → Bool) → List LuminaireField → Bool
all_pass test [] = true
all_pass test (f ∷ fs) = test f && all_pass test fs

pub entry_passes : (test : LuminaireField → Bool) (fs : List LuminaireField) (i : ℕ) {f : LuminaireField} → all_pass test fs ≡ true → slice_get fs i ≡ Some f → test f ≡ true
entry_passes test [] i t e = no_element e
entry_passes test (g ∷ fs) zero t e = subst (λ (f : LuminaireField). test f ≡ true) (same_Some _ _ e) (first_true (test g) (all_pass test fs) t)
entry_passes test (g ∷ fs) (suc i) t e = entry_passes test fs i (second_true (test g) (all_pass test fs) t) e

-- each field's offsets are bytes, and its own bytes are few: a number's four at most
abbrev is_narrow : FieldKind → ℕ → Bool
is_narrow LayoutId n = true
is_narrow (Number patch r) n = leb n 4
is_narrow (Text t) n = true

pub narrow : (kind : FieldKind) {n patch : ℕ} {r : NumberRule} → kind ≡ Number patch r → is_narrow kind n ≡ true → n ≤ 4
narrow kind {n} e t = leb-true n 4 (rw e at t)

pub record WithinBank (f : LuminaireField) : Type 0 where
  pub starts : f.offset ≤ 254
  pub ends : field_end f ≤ 256
  pub few : f.len ≤ 60
  pub if_number : is_narrow f.kind f.len ≡ true

abbrev is_within : LuminaireField → Bool
is_within f = leb f.offset 254 && leb (field_end f) 256 && leb f.len 60 && is_narrow f.kind f.len

pub within_bank : {f : LuminaireField} (i : ℕ) → slice_get luminaire_fields i ≡ Some f → WithinBank f
unfolding luminaire_fields
within_bank {f} i e =
    let passes = entry_passes is_within luminaire_fields i refl e in
    record {
      starts = grind (arith, nat_tests);
      ends = grind (arith, nat_tests);
      few = grind (arith, nat_tests);
      if_number = grind (arith, nat_tests);
    }

pub table_length : length luminaire_fields ≡ 18
unfolding luminaire_fields
table_length = refl

-- in a loop over the table: what a turn's field gives comes behind what the fields before it give
pub next_field : {t : List LuminaireField} → t ≡ luminaire_fields → (i : ℕ) (d : LuminaireField) → i < length t → {A : Type 0} (g : ℕ → LuminaireField → List A)
    → gather g (take (i + 1) luminaire_fields) ≡ gather g (take i luminaire_fields) ++ g i (get_or t i d)
next_field {t} is i d h g = rw (← is) (gather_next g t i d h)

pub all_fields : {t : List LuminaireField} → t ≡ luminaire_fields → (i : ℕ) → length t ≤ i → take i luminaire_fields ≡ luminaire_fields
all_fields is i h = take_all i luminaire_fields (rw (← is) h)

pub all_rows : take 18 luminaire_fields ≡ luminaire_fields
all_rows = all_fields refl 18 (omega (arith, table_length))

-- all planned stores, field by field
pub by_field : (n : LuminaireNumbers) (which : Option ℕ) (text : List ℕ) → plan_stores n which text ≡ gather (stores_at n which text) luminaire_fields
unfolding plan_stores planned_writes
by_field n which text = flat_gather write_stores (writes_at n which text) luminaire_fields

-- the fields come by rising offset, each behind the end of the one before
abbrev pub Sorted : ℕ → List LuminaireField → Type 0
Sorted z [] = Unit {0}
Sorted z (f ∷ fs) = (z ≤ f.offset) × Sorted (field_end f) fs

abbrev rises : ℕ → List LuminaireField → Bool
rises z [] = true
rises z (f ∷ fs) = leb z f.offset && rises (field_end f) fs

sorted : (z : ℕ) (fs : List LuminaireField) → rises z fs ≡ true → Sorted z fs
sorted z [] t = tt
sorted z (f ∷ fs) t = (leb-true z f.offset (first_true (leb z f.offset) (rises (field_end f) fs) t), sorted (field_end f) fs (second_true (leb z f.offset) (rises (field_end f) fs) t))

pub table_rises : Sorted 0 luminaire_fields
unfolding luminaire_fields
table_rises = sorted 0 luminaire_fields refl
