-- How many stores a plan has: field by field without laying them, and at most.
-- Assumes nothing.
use Rattle.std.proofs.lemmas.Option.{same_Some}
use Rattle.std.specs.Prelude.{None, Option, Some, is_some, option_map, slice_get}
use mathlib.Core.Path.{◌≡◌, refl, sym, ap, ◌∙◌, subst}
use mathlib.Core.Bool.{Bool, true, false, cond, ◌&&◌, true≢false}
use mathlib.Core.List.{List, [], ◌∷◌, ◌++◌, map}
use Prim.Native.Nat.{ℕ, suc, ◌+◌, ◌≤◌, min}
use native.Mathlib.Nat.{suc_inj, suc-ne-zero}
use native.Mathlib.Omega.{arith}
use borrow.Author.Tests.{eqb-true}
use lib.Count.{count_trailing_zeros}
use lib.ListN.{length, length-append, length-take}
use Rattle.bus.specs.declared.part251.LuminaireFormat.{LuminaireFormat}
use Rattle.bus.specs.declared.part251.LuminaireFormat.TheVariants.{V3, V4, V5}
use Rattle.bus.specs.Maps.{first_with}
use Rattle.bus.specs.Number.{low_bytes}
use Rattle.bus.specs.Part251.{from_format, format_of}
use Rattle.bus.proofs.Tests.{by_test}
use Rattle.bus.proofs.Lists.{no_element}
use Rattle.bus.proofs.Number.{length_low_bytes}
use Rattle.bank.specs.declared.luminaire_write.NumberRule.{NumberRule}
use Rattle.bank.specs.declared.luminaire_write.FieldKind.{FieldKind}
use Rattle.bank.specs.declared.luminaire_write.FieldKind.TheVariants.{LayoutId, Number, Text}
use Rattle.bank.specs.declared.luminaire_write.LuminaireField.{LuminaireField}
use Rattle.bank.specs.Calls.{sum}
use Rattle.bank.specs.Fields.{luminaire_fields, is_text_kind, printable, first_not_printable}
use Rattle.bank.specs.Refusal.{first_of}
use Rattle.bank.specs.Writable.{format_in}
use Rattle.records.specs.declared.luminaire_write.LuminaireNumbers.{LuminaireNumbers}
use Rattle.records.specs.declared.luminaire_write.Plan.{Plan}
use Rattle.records.specs.Writes.{number_for, wanted_number, is_for, terminated, bytes_for, written, gather, is_staged, write_stores, stores_at, planned_writes, plan_stores}
use Rattle.records.specs.Plan.{plan_checks, stores_of}
use Rattle.records.specs.Count.{is_number_kind, number_len, text_len, longest, most_stores, Reached, AtMost78And80}
use Rattle.records.specs.Steps.{count_of, number_stores, text_stores}
use Rattle.records.proofs.Accepted.{in_format_lem}
use Rattle.records.proofs.Stages.{bytes_fit, staged_count, other_count, stores_of_write, stores_of_none}
use Rattle.records.proofs.Gathering.{gather_nothing}
use Rattle.records.proofs.Table.{by_field}

-- ---- of a field

-- the count where it is known whether a write is staged
abbrev of_staged : ℕ → Bool → ℕ
of_staged n b = cond b (n + 1) n

write_count : (place : ℕ) (f : LuminaireField) (bytes : List ℕ) → length (write_stores (written place f bytes)) ≡ count_of f (length bytes)
write_count place f bytes =
    by_test (is_staged f.kind (length bytes))
    (λ t. staged_count place f bytes t ∙ sym (ap (of_staged (length bytes)) t))
    (λ t. other_count place f bytes t ∙ sym (ap (of_staged (length bytes)) t))

-- a number is never staged, and a text has one store more at most
number_count : (f : LuminaireField) (n : ℕ) {patch : ℕ} {r : NumberRule} → f.kind ≡ Number patch r → count_of f n ≡ n
number_count f n k = ap (λ (kind : FieldKind). of_staged n (is_staged kind n)) k

few_count : (f : LuminaireField) (n : ℕ) → count_of f n ≤ n + 1
few_count f n =
    by_test (is_staged f.kind n)
    (λ t. omega (arith, ap (of_staged n) t))
    (λ t. omega (arith, ap (of_staged n) t))

module _ (n : LuminaireNumbers) (which : Option ℕ) (text : List ℕ) (place : ℕ) (f : LuminaireField) where
  -- the bytes that are to be written, by the field's kind
  abbrev bytes_by : FieldKind → Option (List ℕ)
  bytes_by kind = bytes_for kind n which text place f

  of_write : {bytes : List ℕ} → bytes_by f.kind ≡ Some bytes → length (stores_at n which text place f) ≡ count_of f (length bytes)
  of_write {bytes} b = ap length (stores_of_write n which text place f b) ∙ write_count place f bytes

  pub none_wanted : wanted_number n f.kind ≡ None → is_for which place ≡ false → stores_at n which text place f ≡ []
  none_wanted no_number no_text = stores_of_none n which text place f (go f.kind refl)
    where
      go : (kind : FieldKind) → f.kind ≡ kind → bytes_by f.kind ≡ None
      go LayoutId k = ap bytes_by k
      go (Number patch r) k = ap bytes_by k ∙ ap (option_map (low_bytes f.len)) no_number
      go (Text own) k = ap bytes_by k ∙ ap (λ (b : Bool). cond b (Some (terminated f text)) None) no_text

  -- where no text is wanted of the field, its number's
  pub counted_number : is_for which place ≡ false → length (stores_at n which text place f) ≡ number_stores n f
  counted_number no_text = go f.kind refl (wanted_number n f.kind) refl
    where
      go : (kind : FieldKind) → f.kind ≡ kind → (o : Option ℕ) → wanted_number n f.kind ≡ o → length (stores_at n which text place f) ≡ cond (is_some o) f.len 0
      go kind k None w = ap length (none_wanted w no_text)
      go LayoutId k (Some value) w = no_element (sym (ap (wanted_number n) k) ∙ w)
      go (Number patch r) k (Some value) w =
          of_write {bytes = low_bytes f.len value} (ap bytes_by k ∙ ap (option_map (low_bytes f.len)) w)
          ∙ number_count f _ k
          ∙ length_low_bytes f.len value
      go (Text own) k (Some value) w = no_element (sym (ap (wanted_number n) k) ∙ w)

  -- and where one is, its own
  pub counted_text : is_text_kind f.kind ≡ true → is_for which place ≡ true → length (stores_at n which text place f) ≡ text_stores f (length text)
  counted_text t w = go f.kind refl
    where
      go : (kind : FieldKind) → f.kind ≡ kind → length (stores_at n which text place f) ≡ text_stores f (length text)
      go LayoutId k = absurd (true≢false (sym (rw k at t)))
      go (Number patch r) k = absurd (true≢false (sym (rw k at t)))
      go (Text own) k =
          of_write {bytes = terminated f text} (ap bytes_by k ∙ ap (λ (b : Bool). cond b (Some (terminated f text)) None) w)
          ∙ ap (count_of f) (length-take f.len (text ++ (0 ∷ [])) ∙ ap (min f.len) (length-append text (0 ∷ [])))

-- ---- at most

not_chosen : (b : Bool) → (b ≡ true → ⊥) → b ≡ false
not_chosen true h = absurd (h refl)
not_chosen false h = refl

-- along the table, where at most one place is chosen for a text
module _ (v : LuminaireFormat) {A : Type 0} where
  abbrev Few : (ℕ → LuminaireField → List A) → (ℕ → Bool) → List LuminaireField → Type 0
  Few g chosen fs = (i : ℕ) (f : LuminaireField) → slice_get fs i ≡ Some f → length (g i f) ≤ number_len v f + cond (chosen i) (text_len v f + 1) 0

  no_text_few : (g : ℕ → LuminaireField → List A) (chosen : ℕ → Bool) (fs : List LuminaireField) → ((i : ℕ) → chosen i ≡ false) → Few g chosen fs → length (gather g fs) ≤ sum (map (number_len v) fs)
  no_text_few g chosen [] never few = omega arith
  no_text_few g chosen (f ∷ fs) never few =
      let first : length (g 0 f) ≤ number_len v f + 0 = rw (never 0) at (few 0 f refl) in
      let rest = no_text_few (λ i. g (suc i)) (λ i. chosen (suc i)) fs (λ i. never (suc i)) (λ i. few (suc i)) in
      rw (length-append (g 0 f) (gather (λ i. g (suc i)) fs)) (omega (arith, first, rest))

  one_text_few : (g : ℕ → LuminaireField → List A) (chosen : ℕ → Bool) (fs : List LuminaireField) → ((i j : ℕ) → chosen i ≡ true → chosen j ≡ true → i ≡ j) → Few g chosen fs
      → length (gather g fs) ≤ sum (map (number_len v) fs) + (longest (map (text_len v) fs) + 1)
  one_text_few g chosen [] once few = omega arith
  one_text_few g chosen (f ∷ fs) once few =
      rw (length-append (g 0 f) (gather (λ i. g (suc i)) fs))
      (by_test (chosen 0)
      (λ t.
      let first : length (g 0 f) ≤ number_len v f + (text_len v f + 1) = rw t at (few 0 f refl) in
      let rest = no_text_few (λ i. g (suc i)) (λ i. chosen (suc i)) fs (λ i. not_chosen (chosen (suc i)) (λ u. suc-ne-zero _ (once (suc i) 0 u t))) (λ i. few (suc i)) in
      omega (arith, first, rest))
      (λ t.
      let first : length (g 0 f) ≤ number_len v f + 0 = rw t at (few 0 f refl) in
      let rest = one_text_few (λ i. g (suc i)) (λ i. chosen (suc i)) fs (λ i j a b. suc_inj (once (suc i) (suc j) a b)) (λ i. few (suc i)) in
      omega (arith, first, rest)))

for_one : (which : Option ℕ) (i j : ℕ) → is_for which i ≡ true → is_for which j ≡ true → i ≡ j
for_one (Some k) i j a b = sym (eqb-true k i a) ∙ eqb-true k j b
for_one None i j a b = absurd (true≢false (sym a))

module _ (p : Plan) (text : List ℕ) (sound : first_of (plan_checks p text) ≡ None) where
  abbrev format : Option LuminaireFormat
  format = format_in p.layout.content_format_id

  module _ (v : LuminaireFormat) (of : format ≡ Some v) where
    -- what may be written, the format has
    has : (i : ℕ) {f : LuminaireField} {bytes : List ℕ} → slice_get luminaire_fields i ≡ Some f → bytes_for f.kind p.numbers p.text_field text i f ≡ Some bytes → from_format f.since v ≡ true
    has i {f} e b =
        let found = in_format_lem p text sound i e b in
        subst (λ (w : LuminaireFormat). from_format f.since w ≡ true) (same_Some _ _ (sym found.is_format ∙ of)) found.has_field

    few_at : (i : ℕ) (f : LuminaireField) → slice_get luminaire_fields i ≡ Some f
        → length (stores_at p.numbers p.text_field text i f) ≤ number_len v f + cond (is_for p.text_field i) (text_len v f + 1) 0
    few_at i f e = go (bytes_for f.kind p.numbers p.text_field text i f) refl
      where
        some : (kind : FieldKind) {bytes : List ℕ} → f.kind ≡ kind → bytes_for f.kind p.numbers p.text_field text i f ≡ Some bytes
            → length (stores_at p.numbers p.text_field text i f) ≤ number_len v f + cond (is_for p.text_field i) (text_len v f + 1) 0
        some LayoutId k b = no_element (sym (ap (bytes_by p.numbers p.text_field text i f) k) ∙ b)
        some (Number patch r) {bytes} k b =
            let len : number_len v f ≡ f.len = ap (λ (kind : FieldKind). cond (is_number_kind kind && from_format f.since v) f.len 0) k ∙ ap (λ (t : Bool). cond t f.len 0) (has i e b) in
            omega (arith, of_write p.numbers p.text_field text i f b, number_count f (length bytes) k, bytes_fit f.kind p.numbers p.text_field text i f b, len)
        some (Text t) {bytes} k b =
            let len : text_len v f ≡ f.len = ap (λ (kind : FieldKind). cond (is_text_kind kind && from_format f.since v) f.len 0) k ∙ ap (λ (t : Bool). cond t f.len 0) (has i e b) in
            by_test (is_for p.text_field i)
            (λ w. rw w (omega (arith, of_write p.numbers p.text_field text i f b, few_count f (length bytes), bytes_fit f.kind p.numbers p.text_field text i f b, len)))
            (λ w. no_element (sym (ap (bytes_by p.numbers p.text_field text i f) k ∙ ap (λ (b : Bool). cond b (Some (terminated f text)) None) w) ∙ b))

        go : (o : Option (List ℕ)) → bytes_for f.kind p.numbers p.text_field text i f ≡ o
            → length (stores_at p.numbers p.text_field text i f) ≤ number_len v f + cond (is_for p.text_field i) (text_len v f + 1) 0
        go None b = rw (ap length (stores_of_none p.numbers p.text_field text i f b)) (omega arith)
        go (Some bytes) b = some f.kind refl b

    at_most : length (stores_of p text) ≤ most_stores v
    unfolding most_stores
    at_most =
        rw (by_field p.numbers p.text_field text)
        (one_text_few v (stores_at p.numbers p.text_field text) (is_for p.text_field) luminaire_fields (for_one p.text_field) few_at)

  in_none : format ≡ None → length (stores_of p text) ≡ 0
  in_none none = rw (by_field p.numbers p.text_field text) (ap length (gather_nothing (stores_at p.numbers p.text_field text) luminaire_fields (λ i f e. go i f e (bytes_for f.kind p.numbers p.text_field text i f) refl)))
    where
      go : (i : ℕ) (f : LuminaireField) → slice_get luminaire_fields i ≡ Some f → (o : Option (List ℕ)) → bytes_for f.kind p.numbers p.text_field text i f ≡ o → stores_at p.numbers p.text_field text i f ≡ []
      go i f e None b = stores_of_none p.numbers p.text_field text i f b
      go i f e (Some bytes) b = no_element (sym none ∙ (in_format_lem p text sound i e b).is_format)

most_is : (v : LuminaireFormat) → most_stores v ≤ 80
unfolding most_stores luminaire_fields
most_is V3 = omega arith
most_is V4 = omega arith
most_is V5 = omega arith

pub at_most_80 : (p : Plan) (text : List ℕ) → first_of (plan_checks p text) ≡ None → length (stores_of p text) ≤ 80
at_most_80 p text sound = go (format_in p.layout.content_format_id) refl
  where
    go : (o : Option LuminaireFormat) → format_in p.layout.content_format_id ≡ o → length (stores_of p text) ≤ 80
    go None e = omega (arith, in_none p text sound e)
    go (Some v) e = omega (arith, at_most p text sound v e, most_is v)

-- antt computes the plans that reach it
reached : (v : LuminaireFormat) → Reached v
unfolding first_of luminaire_fields format_of first_with printable first_not_printable count_trailing_zeros number_for planned_writes plan_stores plan_checks low_bytes most_stores
reached V3 = record { of_format = refl; is_accepted = refl; reaches = refl }
reached V4 = record { of_format = refl; is_accepted = refl; reaches = refl }
reached V5 = record { of_format = refl; is_accepted = refl; reaches = refl }

pub at_most_78_and_80 : AtMost78And80
unfolding most_stores luminaire_fields
at_most_78_and_80 =
    record {
      at_most = λ p text v e s. at_most p text s v e;
      in_format_3 = refl;
      in_format_4 = refl;
      in_format_5 = refl;
      room = refl;
      reached = reached;
      in_none = λ p text e s. in_none p text s e;
    }
