-- Laws of a write's bytes and of its stages.
-- Assumes nothing.
use Rattle.std.proofs.Common.{w32}
use Rattle.std.specs.Int.{to_be_bytes}
use Rattle.std.specs.Prelude.{None, Option, Some, option_map}
use mathlib.Core.Path.{◌≡◌, refl, sym, ap, ◌∙◌}
use mathlib.Core.Bool.{Bool, true, false}
use Rattle.std.specs.Bool.{then_some}
use mathlib.Core.List.{List, [], ◌∷◌, ◌++◌, append-nil}
use Prim.Native.Nat.{ℕ, zero, suc, ◌+◌, ◌-◌, ◌≤◌, ◌<◌}
use native.Mathlib.Nat.{div-one}
use native.Mathlib.Omega.{arith}
use borrow.Author.Tests.{leb-true}
use lib.Dec.{leb}
use lib.ListN.{set, length, take, drop, length-append, length-take, length-drop}
use lib.Seq.{sets, take_all, take-append-le}
use Rattle.bus.specs.Number.{low_bytes}
use Rattle.bus.proofs.Tests.{by_test, second_true}
use Rattle.bus.proofs.Number.{length_low_bytes}
use Rattle.bus.proofs.Lists.{no_element}
use Rattle.bank.specs.declared.luminaire_write.NumberRule.{NumberRule}
use Rattle.bank.specs.declared.luminaire_write.FieldKind.{FieldKind}
use Rattle.bank.specs.declared.luminaire_write.FieldKind.TheVariants.{LayoutId, Number, Text}
use Rattle.bank.specs.declared.luminaire_write.LuminaireField.{LuminaireField}
use Rattle.bank.specs.Fields.{field_end, is_text_kind}
use Rattle.records.specs.declared.luminaire_write.LuminaireNumbers.{LuminaireNumbers}
use Rattle.records.specs.declared.luminaire_write.WriteStage.{WriteStage}
use Rattle.records.specs.Writes.{Each, Store, wanted_number, is_for, terminated, bytes_for, is_staged, stages_of, part_of, single_bytes, written, write_stores, stores_at}
use Rattle.records.proofs.Laying.{sets_append}

-- the low bytes of a number are the last of all its four
last_bytes : (n v : ℕ) → n ≤ 4 → drop (4 - n) (to_be_bytes w32 v) ≡ low_bytes n v
unfolding low_bytes
last_bytes zero v h = refl
last_bytes (suc zero) v h = rw div-one
last_bytes (suc (suc zero)) v h = rw div-one
last_bytes (suc (suc (suc zero))) v h = rw div-one
last_bytes (suc (suc (suc (suc zero)))) v h = rw div-one
last_bytes (suc (suc (suc (suc (suc n))))) v h = absurd (omega arith)

pub low_of_wide : (n v : ℕ) → n ≤ 4 → take (4 - (4 - n)) (drop (4 - n) (to_be_bytes w32 v)) ≡ low_bytes n v
low_of_wide n v h =
    let all : 4 - (4 - n) ≡ n = omega arith in
    rw (last_bytes n v h, all) (take_all n (low_bytes n v) (omega (arith, length_low_bytes n v)))

-- a text that fills its field or more is cut, a shorter one gets its 00
pub cut_text : (f : LuminaireField) (text : List ℕ) → f.len ≤ length text → terminated f text ≡ take f.len text
cut_text f text h = take-append-le f.len text (0 ∷ []) h

pub short_text : (f : LuminaireField) (text : List ℕ) → length text < f.len → terminated f text ≡ text ++ (0 ∷ [])
short_text f text h = take_all f.len (text ++ (0 ∷ [])) (rw length-append (omega arith))

-- no write is longer than its field
pub bytes_fit : (kind : FieldKind) (n : LuminaireNumbers) (which : Option ℕ) (text : List ℕ) (place : ℕ) (f : LuminaireField) {bytes : List ℕ} → bytes_for kind n which text place f ≡ Some bytes → length bytes ≤ f.len
bytes_fit LayoutId n which text place f e = no_element e
bytes_fit (Number patch r) n which text place f {bytes} e = go (wanted_number n f.kind) refl
  where
    go : (o : Option ℕ) → wanted_number n f.kind ≡ o → length bytes ≤ f.len
    go None w = no_element (rw w at e)
    go (Some v) w =
        let same : Some (low_bytes f.len v) ≡ Some bytes = rw w at e in
        let b : low_bytes f.len v ≡ bytes = cc in
        omega (arith, sym (ap length b) ∙ length_low_bytes f.len v)
bytes_fit (Text t) n which text place f {bytes} e =
    by_test (is_for which place)
    (λ w.
    let same : Some (terminated f text) ≡ Some bytes = rw w at e in
    let b : terminated f text ≡ bytes = cc in
    omega (arith, sym (ap length b) ∙ length-take f.len (text ++ (0 ∷ []))))
    (λ w. no_element (rw w at e))

-- bytes that are set where a yes or no beside them says so
pub set_some : {told : Bool} {set : List ℕ} {o : Option (List ℕ)} → then_some told set ≡ o → told ≡ true → o ≡ Some set
set_some is t = sym (rw t at is)

pub set_none : {told : Bool} (set : List ℕ) {o : Option (List ℕ)} → then_some told set ≡ o → told ≡ false → o ≡ None
set_none set is t = sym (rw t at is)

-- the stores of a field that has a write, and of one that has none
module _ (n : LuminaireNumbers) (which : Option ℕ) (text : List ℕ) (place : ℕ) (f : LuminaireField) where
  pub stores_of_write : {bytes : List ℕ} → bytes_for f.kind n which text place f ≡ Some bytes → stores_at n which text place f ≡ write_stores (written place f bytes)
  stores_of_write {bytes} e = rw e (append-nil (write_stores (written place f bytes)))

  pub stores_of_none : bytes_for f.kind n which text place f ≡ None → stores_at n which text place f ≡ []
  stores_of_none e = rw e

pub single_count : (o : ℕ) (bs : List ℕ) → length (single_bytes o bs) ≡ length bs
single_count o [] = refl
single_count o (b ∷ bs) = ap suc (single_count (suc o) bs)

-- each stage stands in its field, and so in a bank
module _ (index : ℕ) (f : LuminaireField) (bytes : List ℕ) (fits : length bytes ≤ f.len) where
  abbrev pub StageIn : WriteStage → Type 0
  StageIn s = (f.offset ≤ s.offset) × (s.offset + length (part_of s.part bytes) ≤ field_end f)

  pub stages_in_lem : Each StageIn (stages_of index f (length bytes))
  stages_in_lem =
      by_test (is_staged f.kind (length bytes))
      (λ t.
      let two = leb-true 2 (length bytes) (second_true (is_text_kind f.kind) (leb 2 (length bytes)) t) in
      rw t (simp (length-take, length-drop) (omega arith)))
      (λ t. rw t (omega arith))

-- how many stores a write has: one for each byte, and for a staged one the 00 before them
module _ (place : ℕ) (f : LuminaireField) (bytes : List ℕ) where
  pub staged_count : is_staged f.kind (length bytes) ≡ true → length (write_stores (written place f bytes)) ≡ length bytes + 1
  staged_count t =
      let two = leb-true 2 (length bytes) (second_true (is_text_kind f.kind) (leb 2 (length bytes)) t) in
      rw t (simp (length-append, single_count, length-take, length-drop) (omega arith))

  pub other_count : is_staged f.kind (length bytes) ≡ false → length (write_stores (written place f bytes)) ≡ length bytes
  other_count t = rw t (simp (length-append, single_count) (omega arith))

  pub other_stores : is_staged f.kind (length bytes) ≡ false → write_stores (written place f bytes) ≡ single_bytes f.offset bytes
  other_stores t = rw t (append-nil (single_bytes f.offset bytes))

  -- laid from an index on, stage by stage
  pub staged_laid : is_staged f.kind (length bytes) ≡ true → (l : List Store) (i : ℕ)
      → sets l i (write_stores (written place f bytes))
      ≡ sets (sets (sets l i (single_bytes f.offset (0 ∷ []))) (i + 1) (single_bytes (f.offset + 1) (drop 1 bytes))) (i + 1 + length (drop 1 bytes)) (single_bytes f.offset (take 1 bytes))
  staged_laid t l i =
      let tail = single_bytes (f.offset + 1) (drop 1 bytes) in
      let head = single_bytes f.offset (take 1 bytes) in
      let behind : suc i ≡ i + 1 = omega arith in
      rw (t, append-nil head)
      (sets_append (set l i (record { offset = f.offset; value = 0 })) (suc i) tail head ∙ rw (single_count (f.offset + 1) (drop 1 bytes), behind))

  write_few : length (write_stores (written place f bytes)) ≤ length bytes + 1
  write_few =
      by_test (is_staged f.kind (length bytes))
      (λ t. omega (arith, staged_count t))
      (λ t. omega (arith, other_count t))

-- a number is stored from its first byte on
pub stores_of_number :
    (n : LuminaireNumbers) (which : Option ℕ) (text : List ℕ) (place : ℕ) (f : LuminaireField) {patch value : ℕ} {r : NumberRule} →
    f.kind ≡ Number patch r → wanted_number n f.kind ≡ Some value → stores_at n which text place f ≡ single_bytes f.offset (low_bytes f.len value)
stores_of_number n which text place f {value = value} k w =
    let bytes = low_bytes f.len value in
    stores_of_write n which text place f {bytes = bytes} (ap (λ (kind : FieldKind). bytes_for kind n which text place f) k ∙ ap (option_map (low_bytes f.len)) w)
    ∙ other_stores place f bytes (ap (λ (kind : FieldKind). is_staged kind (length bytes)) k)

-- laid by its low bytes
pub record NumberLaid (n : LuminaireNumbers) (which : Option ℕ) (text : List ℕ) (place : ℕ) (f : LuminaireField) (bytes : List ℕ) : Type 0 where
  pub count : length bytes ≡ f.len
  pub stores : single_bytes f.offset bytes ≡ stores_at n which text place f
  pub all : length (stores_at n which text place f) ≡ f.len

pub number_laid :
    (n : LuminaireNumbers) (which : Option ℕ) (text : List ℕ) (place : ℕ) (f : LuminaireField) {patch value : ℕ} {r : NumberRule} {wide : List ℕ} →
    f.kind ≡ Number patch r → wanted_number n f.kind ≡ Some value → f.len ≤ 4 → wide ≡ to_be_bytes w32 value →
    NumberLaid n which text place f (take (4 - (4 - f.len)) (drop (4 - f.len) wide))
number_laid n which text place f {value = value} k w h e =
    let bytes = low_of_wide f.len value h in
    let stores = stores_of_number n which text place f k w in
    let count = length_low_bytes f.len value in
    record {
      count = rw (e, bytes) count;
      stores = rw (e, bytes) (sym stores);
      all = ap length stores ∙ single_count f.offset (low_bytes f.len value) ∙ count;
    }

pub stores_few : (n : LuminaireNumbers) (which : Option ℕ) (text : List ℕ) (place : ℕ) (f : LuminaireField) → length (stores_at n which text place f) ≤ f.len + 1
stores_few n which text place f = go (bytes_for f.kind n which text place f) refl
  where
    go : (o : Option (List ℕ)) → bytes_for f.kind n which text place f ≡ o → length (stores_at n which text place f) ≤ f.len + 1
    go None e = rw (stores_of_none n which text place f e) (omega arith)
    go (Some bytes) e = rw (stores_of_write n which text place f e) (omega (arith, write_few place f bytes, bytes_fit f.kind n which text place f e))
