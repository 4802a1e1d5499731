-- What each field of a bank reads as behind the cut of an accepted plan.
-- Assumes nothing.
use Rattle.std.specs.Prelude.{None, Option, Some, option_map, slice_get}
use mathlib.Core.Path.{◌≡◌, refl, sym, ap, ◌∙◌, subst}
use mathlib.Core.Logic.{◌≢◌}
use mathlib.Core.Bool.{true, false, cond, true≢false}
use mathlib.Core.List.{List, [], ◌∷◌, ◌++◌, append-nil, append_assoc}
use Prim.Native.Nat.{ℕ, ◌+◌, ◌-◌, ◌*◌, ◌^◌, ◌≤◌, ◌<◌}
use native.Mathlib.Nat.{sub-zero, not-suc-le-zero, mod-eq_of_lt}
use native.Mathlib.Omega.{arith}
use borrow.Author.Tests.{ltb-true, ltb-false, leb-true, le-leb, ne_eqb}
use lib.Dec.{leb, ltb}
use lib.ListN.{length, take, drop, length-take, drop_of_length-le}
use lib.Seq.{take_all, take-nil}
use Rattle.bus.specs.declared.part251.LuminaireFormat.{LuminaireFormat}
use Rattle.bus.specs.Number.{number, low_bytes}
use Rattle.bus.specs.Part251.{from_format}
use Rattle.bus.proofs.Number.{length_low_bytes, number_low_bytes}
use Rattle.bus.proofs.Tests.{by_test, first_true, second_true}
use Rattle.bank.specs.declared.luminaire_write.NumberRule.{NumberRule}
use Rattle.bank.specs.declared.luminaire_write.NumberRule.TheVariants.{Year, Week, Power, MainsVoltage, LightOutput, Cri, Cct, LightDistributionType, LampCurrent}
use Rattle.bank.specs.declared.luminaire_write.LuminaireTextField.{LuminaireTextField}
use Rattle.bank.specs.declared.luminaire_write.FieldKind.{FieldKind}
use Rattle.bank.specs.declared.luminaire_write.FieldKind.TheVariants.{LayoutId, Number, Text}
use Rattle.bank.specs.declared.luminaire_write.LuminaireField.{LuminaireField}
use Rattle.bank.specs.declared.luminaire_write.Bank1Layout.{Bank1Layout}
use Rattle.bank.specs.Refusal.{first_of}
use Rattle.bank.specs.Rules.{shows}
use Rattle.bank.specs.Fields.{luminaire_fields, field_end, is_text_kind, fits, shown_by, accepts_number, id_in}
use Rattle.bank.specs.Writable.{format_in}
use Rattle.records.specs.declared.luminaire_write.Plan.{Plan}
use Rattle.records.specs.declared.fixed_text.FixedText.{FixedText}
use Rattle.records.specs.Places.{field_at, is_there}
use Rattle.records.specs.Text.{until_zero, as_text, text_in}
use Rattle.records.specs.Luminaire.{a_number, a_text, limit_for, says209, value_in, number_read, reading, having, format_at, read_as, reads}
use Rattle.records.specs.Writes.{Store, number_for, wanted_number, is_for, terminated, bytes_for, written, single_bytes, write_stores, stores_at, is_staged, Each, InField}
use Rattle.records.specs.Plan.{plan_checks, stores_of}
use Rattle.records.specs.Cut.{stored, cut_bank, stores_for, before, taken_in, EveryFieldHasItsShare}
use Rattle.records.specs.Claim.{OldBank, Accepted, wanted_of, wanted, begun_of, begun, AllMade, Begun, EveryWantedNumberShown}
use Rattle.records.proofs.Texts.{printable_reads_as_itself, zero_reads_empty}
use Rattle.records.proofs.Whole.{accepted_fits}
use Rattle.records.proofs.Gathering.{each_gather, each_map}
use Rattle.records.proofs.Table.{by_field, table_rises}
use Rattle.records.proofs.Stages.{stores_of_write, stores_of_none, single_count, cut_text, short_text}
use Rattle.records.proofs.Accepted.{in_format_lem, ends_by_lem, accepted_number, accepted_text}
use Rattle.records.proofs.Plans.{passed_plan}
use Rattle.records.proofs.Order.{staged, in_field}
use Rattle.records.proofs.Cutting.{take_again, part, length_part, length_stored, each_take, stored_elsewhere, bytes_made, leading_made, begins_zero, text_made, window, share, in_turn}

-- ---- a field's place in a bank, from offset 0

place_of : (bank : List ℕ) (o n : ℕ) → field_at 0 bank o n ≡ cond (leb (o + n) (length bank)) (Some (part o n bank)) None
place_of bank o n = rw (le-leb 0 o (omega arith), sub-zero)

same_place : (b c : List ℕ) (o n : ℕ) → length b ≡ length c → part o n b ≡ part o n c → field_at 0 b o n ≡ field_at 0 c o n
same_place b c o n l e = place_of b o n ∙ (rw (l, e)) ∙ sym (place_of c o n)

present : (bank : List ℕ) (o n : ℕ) → o + n ≤ length bank → field_at 0 bank o n ≡ Some (part o n bank)
present bank o n h = place_of bank o n ∙ rw (le-leb (o + n) (length bank) h)

-- ---- the reading of a text that was stored whole

text_behind : (f : LuminaireField) (text old : List ℕ) → length text ≤ f.len → length old ≡ f.len
    → (behind : List ℕ) × ((terminated f text ++ drop (length (terminated f text)) old ≡ text ++ behind) × (until_zero behind ≡ []))
unfolding until_zero
text_behind f text old h l =
    by_test (ltb (length text) f.len)
    (λ t.
    let rest = drop (length (terminated f text)) old in
    (0 ∷ rest, (ap (λ (b : List ℕ). b ++ rest) (short_text f text (ltb-true (length text) f.len t)) ∙ append_assoc text (0 ∷ []) rest, refl)))
    (λ t.
    let full = ltb-false (length text) f.len t in
    let whole : terminated f text ≡ text = cut_text f text full ∙ take_all f.len text h in
    ([], (rw whole (ap (λ (r : List ℕ). text ++ r) (drop_of_length-le old {i = length text} (omega arith))), refl)))

-- ---- an accepted plan

module _ (old : List ℕ) (p : Plan) (text : List ℕ) (is_old : OldBank old) (accepted : Accepted old p text) where
  sound : first_of (plan_checks p text) ≡ None
  sound = passed_plan p text accepted.offsets accepted.values accepted.accepts

  abbrev plan_format : Option LuminaireFormat
  plan_format = format_in p.layout.content_format_id

  -- the bank's first byte is the layout's last offset
  last_is : (last : ℕ) × ((p.layout.last_offset ≡ Some last) × (length old ≡ last + 1))
  last_is = go old refl is_old.some_byte
    where
      go : (l : List ℕ) → old ≡ l → 1 ≤ length l → (last : ℕ) × ((p.layout.last_offset ≡ Some last) × (length old ≡ last + 1))
      go [] e h = absurd (not-suc-le-zero h)
      go (x ∷ l) e h = (x, (rw (accepted.layout, e), is_old.first_says x (rw e)))

  -- a field that may be written is in the bank, and in its format
  record MayWrite (f : LuminaireField) : Type 0 where
    format : LuminaireFormat
    is_format : plan_format ≡ Some format
    has_field : from_format f.since format ≡ true
    inside : f.offset + f.len ≤ length old

  may_write : (i : ℕ) {f : LuminaireField} {bytes : List ℕ} → slice_get luminaire_fields i ≡ Some f → bytes_for f.kind p.numbers p.text_field text i f ≡ Some bytes → MayWrite f
  may_write i e b =
      let in_it = in_format_lem p text sound i e b in
      record {
        format = in_it.format;
        is_format = in_it.is_format;
        has_field = in_it.has_field;
        inside = omega (arith, last_is.1.1, ends_by_lem p text sound i e b last_is.1.0);
      }

  -- ---- the cut bank, field by field

  module _ (k : ℕ) where
    abbrev cut : List ℕ
    cut = cut_bank (stores_of p text) k old

    abbrev own : ℕ → LuminaireField → List Store
    own = stores_at p.numbers p.text_field text

    -- what the cut takes in of a field's stores
    abbrev mine : ℕ → LuminaireField → List Store
    mine i f = take (k - before p text i) (own i f)

    pub length_cut : length cut ≡ length old
    length_cut = length_stored (take k (stores_of p text)) old

    cut_place : (i : ℕ) {f : LuminaireField} → slice_get luminaire_fields i ≡ Some f → part f.offset f.len cut ≡ part f.offset f.len (stored (mine i f) old)
    cut_place i {f} e =
        ap (λ (ss : List Store). part f.offset f.len (stored (take k ss) old)) (by_field p.numbers p.text_field text)
        ∙ window own luminaire_fields table_rises (λ i f _. in_field p.numbers p.text_field text i f) i e k old

    none_made : (i : ℕ) {f : LuminaireField} → slice_get luminaire_fields i ≡ Some f → mine i f ≡ [] → field_at 0 cut f.offset f.len ≡ field_at 0 old f.offset f.len
    none_made i {f} e h = same_place cut old f.offset f.len length_cut (cut_place i e ∙ ap (λ (ss : List Store). part f.offset f.len (stored ss old)) h)

    -- the format id has no stores, so the cut bank has the plan's format
    format_cut : format_at 0 cut ≡ plan_format
    unfolding luminaire_fields id_in
    format_cut =
        ap (λ (o : Option (List ℕ)). format_in (option_map number o)) (none_made 0 refl (take-nil (k - before p text 0)))
        ∙ ap (λ (l : Bank1Layout). format_in l.content_format_id) (sym accepted.layout)

    format_old : format_at 0 old ≡ plan_format
    unfolding id_in
    format_old = ap (λ (l : Bank1Layout). format_in l.content_format_id) (sym accepted.layout)

    -- in that format the fields of both banks are read
    reads_in : (bank : List ℕ) → format_at 0 bank ≡ plan_format → (i : ℕ) {f : LuminaireField} → slice_get luminaire_fields i ≡ Some f
        → reads 0 bank i ≡ Some (reading f.kind (having f plan_format) (field_at 0 bank f.offset f.len))
    reads_in bank is i {f} e =
        ap (option_map (read_as 0 bank)) e
        ∙ ap (λ (v : Option LuminaireFormat). Some (reading f.kind (having f v) (field_at 0 bank f.offset f.len))) is

    -- a field with no store made reads as before
    unchanged : (i : ℕ) {f : LuminaireField} → slice_get luminaire_fields i ≡ Some f → mine i f ≡ [] → reads 0 cut i ≡ reads 0 old i
    unchanged i {f} e h =
        reads_in cut format_cut i e
        ∙ ap (λ (o : Option (List ℕ)). Some (reading f.kind (having f plan_format) o)) (none_made i e h)
        ∙ sym (reads_in old format_old i e)

    -- one that may be written is present
    reads_there : (i : ℕ) {f : LuminaireField} {bytes : List ℕ} → slice_get luminaire_fields i ≡ Some f → (m : MayWrite f) → part f.offset f.len (stored (mine i f) old) ≡ bytes
        → reads 0 cut i ≡ Some (reading f.kind (Some m.format) (Some bytes))
    reads_there i {f} {bytes} e m h =
        let here : field_at 0 cut f.offset f.len ≡ Some bytes = present cut f.offset f.len (rw length_cut m.inside) ∙ ap Some (cut_place i e ∙ h) in
        let has : having f plan_format ≡ Some m.format = rw (m.is_format, m.has_field) in
        reads_in cut format_cut i e ∙ ap (λ (v : Option LuminaireFormat). Some (reading f.kind v (field_at 0 cut f.offset f.len))) has ∙ ap (λ (o : Option (List ℕ)). Some (reading f.kind (Some m.format) o)) here

    -- ---- a number

    module _ (i : ℕ) {f : LuminaireField} (e : slice_get luminaire_fields i ≡ Some f) (patch : ℕ) (r : NumberRule) (kind : f.kind ≡ Number patch r) (value : ℕ) (w : number_for p.numbers patch ≡ Some value) where
      number_bytes_lem : bytes_for f.kind p.numbers p.text_field text i f ≡ Some (low_bytes f.len value)
      number_bytes_lem = ap (λ (k : FieldKind). bytes_for k p.numbers p.text_field text i f) kind ∙ ap (option_map (low_bytes f.len)) (ap (wanted_number p.numbers) kind ∙ w)

      may_number : MayWrite f
      may_number = may_write i e number_bytes_lem

      number_stores : own i f ≡ single_bytes f.offset (low_bytes f.len value)
      number_stores =
          stores_of_write p.numbers p.text_field text i f number_bytes_lem
          ∙ (staged i f).other (low_bytes f.len value) (ap (λ (k : FieldKind). is_staged k (length (low_bytes f.len value))) kind)

      -- bytes that are read in the plan's format
      number_reading : {bytes : List ℕ} → part f.offset f.len (stored (mine i f) old) ≡ bytes → reads 0 cut i ≡ Some (a_number (number_read r plan_format (Some bytes)))
      number_reading {bytes} h =
          reads_there i e may_number h
          ∙ ap (λ (k : FieldKind). Some (reading k (Some may_number.format) (Some bytes))) kind
          ∙ ap (λ (v : Option LuminaireFormat). Some (a_number (number_read r v (Some bytes)))) (sym may_number.is_format)

      number_wanted : wanted p text i ≡ Some (a_number (number_read r plan_format (Some (low_bytes f.len value))))
      number_wanted = (rw e) ∙ ap (wanted_of p text i f) kind ∙ (rw w)

      number_whole : mine i f ≡ own i f → reads 0 cut i ≡ wanted p text i
      number_whole all =
          let bytes = low_bytes f.len value in
          let n = length_low_bytes f.len value in
          number_reading
          (ap (λ (ss : List Store). part f.offset f.len (stored ss old)) (all ∙ number_stores)
          ∙ bytes_made f.offset f.len old may_number.inside bytes (omega arith)
          ∙ ap (λ (l : List ℕ). bytes ++ l) (drop_of_length-le (part f.offset f.len old) {i = length bytes} (omega (arith, length_part f.offset f.len old may_number.inside)))
          ∙ append-nil bytes)
          ∙ sym number_wanted

      number_begun : reads 0 cut i ≡ begun p text old (length (mine i f)) i
      number_begun =
          let bytes = low_bytes f.len value in
          let j = k - before p text i in
          let m : length (mine i f) ≡ length (take j bytes) = ap (λ (ss : List Store). length (take j ss)) number_stores ∙ (simp (length-take, single_count)) in
          number_reading
          (ap (λ (ss : List Store). part f.offset f.len (stored (take j ss) old)) number_stores
          ∙ leading_made f.offset f.len old may_number.inside j bytes (omega (arith, length_low_bytes f.len value))
          ∙ ap (λ (l : List ℕ). l ++ drop (length (take j bytes)) (part f.offset f.len old)) (sym (take_again j bytes))
          ∙ ap (λ (n : ℕ). take n bytes ++ drop n (part f.offset f.len old)) (sym m))
          ∙ sym ((rw e) ∙ ap (begun_of p text old (length (mine i f)) f) kind ∙ (rw w))

    -- ---- a text

    module _ (i : ℕ) {f : LuminaireField} (e : slice_get luminaire_fields i ≡ Some f) (t : LuminaireTextField) (kind : f.kind ≡ Text t) (w : is_for p.text_field i ≡ true) where
      bytes : List ℕ
      bytes = terminated f text

      short : length bytes ≤ f.len
      unfolding bytes
      short = rw length-take (omega arith)

      text_bytes_lem : bytes_for f.kind p.numbers p.text_field text i f ≡ Some bytes
      unfolding bytes
      text_bytes_lem = ap (λ (k : FieldKind). bytes_for k p.numbers p.text_field text i f) kind ∙ (rw w)

      may_text : MayWrite f
      may_text = may_write i e text_bytes_lem

      text_reading : {part_is : List ℕ} → part f.offset f.len (stored (mine i f) old) ≡ part_is → reads 0 cut i ≡ Some (a_text (text_in (limit_for t) (Some part_is)))
      text_reading {part_is} h = reads_there i e may_text h ∙ ap (λ (k : FieldKind). Some (reading k (Some may_text.format) (Some part_is))) kind

      -- all its stores made, its place begins with its bytes
      made_whole : (bs : List ℕ) → length bs ≤ f.len → part f.offset f.len (stored (write_stores (written i f bs)) old) ≡ bs ++ drop (length bs) (part f.offset f.len old)
      made_whole bs h = by bs h
        where
          plain : (bs : List ℕ) → length bs ≤ f.len → is_staged f.kind (length bs) ≡ false → part f.offset f.len (stored (write_stores (written i f bs)) old) ≡ bs ++ drop (length bs) (part f.offset f.len old)
          plain bs h u = ap (λ (ss : List Store). part f.offset f.len (stored ss old)) ((staged i f).other bs u) ∙ bytes_made f.offset f.len old may_text.inside bs h

          by : (bs : List ℕ) → length bs ≤ f.len → part f.offset f.len (stored (write_stores (written i f bs)) old) ≡ bs ++ drop (length bs) (part f.offset f.len old)
          by [] h = plain [] h (ap (λ (k : FieldKind). is_staged k 0) kind)
          by (x ∷ []) h = plain (x ∷ []) h (ap (λ (k : FieldKind). is_staged k 1) kind)
          by (x ∷ y ∷ ys) h =
              ap (λ (ss : List Store). part f.offset f.len (stored ss old)) ((staged i f).text x y ys (ap is_text_kind kind))
              ∙ text_made f.offset f.len old may_text.inside x y ys h

      -- some of them made, it begins with 00
      made_some : (bs : List ℕ) (m : ℕ) → length bs ≤ f.len → 1 ≤ m → m < length (write_stores (written i f bs)) → (rest : List ℕ) × (part f.offset f.len (stored (take m (write_stores (written i f bs))) old) ≡ 0 ∷ rest)
      made_some bs m h a b = by bs h b
        where
          few : (bs : List ℕ) → length bs ≤ 1 → is_staged f.kind (length bs) ≡ false → m < length (write_stores (written i f bs)) → ⊥
          few bs l u b = omega (arith, ap length ((staged i f).other bs u) ∙ single_count f.offset bs)

          by : (bs : List ℕ) → length bs ≤ f.len → m < length (write_stores (written i f bs)) → (rest : List ℕ) × (part f.offset f.len (stored (take m (write_stores (written i f bs))) old) ≡ 0 ∷ rest)
          by [] h b = absurd (few [] (omega arith) (ap (λ (k : FieldKind). is_staged k 0) kind) b)
          by (x ∷ []) h b = absurd (few (x ∷ []) (omega arith) (ap (λ (k : FieldKind). is_staged k 1) kind) b)
          by (x ∷ y ∷ ys) h b =
              let is = (staged i f).text x y ys (ap is_text_kind kind) in
              let z = begins_zero f.offset f.len old may_text.inside x y ys h m a (subst (λ (ss : List Store). m < length ss) is b) in
              (z.0, ap (λ (ss : List Store). part f.offset f.len (stored (take m ss) old)) is ∙ z.1)

      text_stores : own i f ≡ write_stores (written i f bytes)
      text_stores = stores_of_write p.numbers p.text_field text i f text_bytes_lem

      text_wanted : wanted p text i ≡ Some (a_text (as_text (limit_for t) text))
      text_wanted = (rw e) ∙ ap (wanted_of p text i f) kind ∙ (rw w)

      text_whole : mine i f ≡ own i f → reads 0 cut i ≡ wanted p text i
      unfolding bytes
      text_whole all =
          let fits = accepted_fits i text e kind (accepted_text p text sound i e w) in
          let ends = text_behind f text (part f.offset f.len old) fits.few (length_part f.offset f.len old may_text.inside) in
          text_reading (ap (λ (ss : List Store). part f.offset f.len (stored ss old)) (all ∙ text_stores) ∙ made_whole bytes short ∙ ends.1.0)
          ∙ ap (λ (x : Option (FixedText (limit_for t))). Some (a_text x)) (printable_reads_as_itself (limit_for t) text ends.0 fits.plain (omega (arith, fits.few, fits.within)) ends.1.1)
          ∙ sym text_wanted

      text_begun : 1 ≤ length (mine i f) → length (mine i f) < length (own i f) → reads 0 cut i ≡ begun p text old (length (mine i f)) i
      text_begun a b =
          let j = k - before p text i in
          let z = made_some bytes (length (mine i f)) short a (subst (λ (ss : List Store). length (mine i f) < length ss) text_stores b) in
          text_reading
          (ap (λ (ss : List Store). part f.offset f.len (stored ss old)) (sym (take_again j (own i f)))
          ∙ ap (λ (ss : List Store). part f.offset f.len (stored (take (length (mine i f)) ss) old)) text_stores
          ∙ z.1)
          ∙ ap (λ (x : Option (FixedText (limit_for t))). Some (a_text x)) (zero_reads_empty (limit_for t) z.0)
          ∙ sym ((rw e) ∙ ap (begun_of p text old (length (mine i f)) f) kind)

    -- ---- every field

    -- what is wanted of a field: nothing, a number or a text
    data Wants (i : ℕ) (f : LuminaireField) : Type 0 where
      nothing : own i f ≡ [] → wanted p text i ≡ None → Wants i f
      wants_number : (patch : ℕ) (r : NumberRule) → f.kind ≡ Number patch r → (value : ℕ) → number_for p.numbers patch ≡ Some value → Wants i f
      wants_text : (t : LuminaireTextField) → f.kind ≡ Text t → is_for p.text_field i ≡ true → Wants i f

    wants : (i : ℕ) {f : LuminaireField} → slice_get luminaire_fields i ≡ Some f → Wants i f
    wants i {f} e = by_kind f.kind refl
      where
        not_wanted : (k : FieldKind) → f.kind ≡ k → bytes_for k p.numbers p.text_field text i f ≡ None → wanted_of p text i f k ≡ None → Wants i f
        not_wanted k is no_bytes no_reading =
            nothing (stores_of_none p.numbers p.text_field text i f (ap (λ (k : FieldKind). bytes_for k p.numbers p.text_field text i f) is ∙ no_bytes))
            ((rw e) ∙ ap (wanted_of p text i f) is ∙ no_reading)

        by_kind : (k : FieldKind) → f.kind ≡ k → Wants i f
        by_kind LayoutId is = not_wanted LayoutId is refl refl
        by_kind (Number patch r) is = by_number (number_for p.numbers patch) refl
          where
            by_number : (o : Option ℕ) → number_for p.numbers patch ≡ o → Wants i f
            by_number None w = not_wanted (Number patch r) is (ap (option_map (low_bytes f.len)) (ap (wanted_number p.numbers) is ∙ w)) (rw w)
            by_number (Some value) w = wants_number patch r is value w
        by_kind (Text t) is =
            by_test (is_for p.text_field i)
            (λ w. wants_text t is w)
            (λ w. not_wanted (Text t) is (rw w) (rw w))

    is_wanted : (i : ℕ) {f : LuminaireField} (e : slice_get luminaire_fields i ≡ Some f) → 1 ≤ length (own i f) → is_there (wanted p text i) ≡ true
    is_wanted i {f} e h = go (wants i e)
      where
        go : Wants i f → is_there (wanted p text i) ≡ true
        go (nothing o w) = let z : ⊥ = omega (arith, ap length o) in absurd z
        go (wants_number patch r is value w) = ap is_there (number_wanted i e patch r is value w)
        go (wants_text t is w) = ap is_there (text_wanted i e t is w)

    reads_whole : (i : ℕ) {f : LuminaireField} (e : slice_get luminaire_fields i ≡ Some f) → is_there (wanted p text i) ≡ true → mine i f ≡ own i f → reads 0 cut i ≡ wanted p text i
    reads_whole i {f} e there all = go (wants i e)
      where
        go : Wants i f → reads 0 cut i ≡ wanted p text i
        go (nothing o w) = absurd (true≢false (sym there ∙ ap is_there w))
        go (wants_number patch r is value w) = number_whole i e patch r is value w all
        go (wants_text t is w) = text_whole i e t is w all

    reads_begun : (i : ℕ) {f : LuminaireField} (e : slice_get luminaire_fields i ≡ Some f) → 1 ≤ length (mine i f) → length (mine i f) < length (own i f) → reads 0 cut i ≡ begun p text old (length (mine i f)) i
    reads_begun i {f} e a b = go (wants i e)
      where
        go : Wants i f → reads 0 cut i ≡ begun p text old (length (mine i f)) i
        go (nothing o w) = let z : ⊥ = omega (arith, ap length o) in absurd z
        go (wants_number patch r is value w) = number_begun i e patch r is value w
        go (wants_text t is w) = text_begun i e t is w a b

    -- ---- by index

    pub cut_whole : (i : ℕ) → AllMade p text k i → reads 0 cut i ≡ wanted p text i
    cut_whole i m = go (slice_get luminaire_fields i) refl
      where
        go : (o : Option LuminaireField) → slice_get luminaire_fields i ≡ o → reads 0 cut i ≡ wanted p text i
        go None e = absurd (true≢false (sym (rw e at m.is_planned)))
        go (Some f) e = reads_whole i e m.is_planned (rw e at m.all)

    pub cut_begun : (i : ℕ) → Begun p text k i → reads 0 cut i ≡ begun p text old (length (taken_in p text k i)) i
    cut_begun i m = go (slice_get luminaire_fields i) refl
      where
        go : (o : Option LuminaireField) → slice_get luminaire_fields i ≡ o → reads 0 cut i ≡ begun p text old (length (taken_in p text k i)) i
        go None e = let z : ⊥ = omega (arith, (rw e at m.not_all)) in absurd z
        go (Some f) e =
            let taken : taken_in p text k i ≡ mine i f = rw e in
            reads_begun i e (rw e at m.takes_one) (rw e at m.not_all) ∙ ap (λ (ss : List Store). begun p text old (length ss) i) (sym taken)

    pub cut_others : (i : ℕ) → (AllMade p text k i → ⊥) → (Begun p text k i → ⊥) → reads 0 cut i ≡ reads 0 old i
    cut_others i not_whole not_begun = go (slice_get luminaire_fields i) refl
      where
        no_elements : (ss : List Store) → length ss ≤ 0 → ss ≡ []
        no_elements [] h = refl
        no_elements (s ∷ ss) h = let z : ⊥ = omega arith in absurd z

        go : (o : Option LuminaireField) → slice_get luminaire_fields i ≡ o → reads 0 cut i ≡ reads 0 old i
        go None e = rw e
        go (Some f) e =
            by_test (ltb 0 (length (mine i f)))
            (λ t.
            let one = ltb-true 0 (length (mine i f)) t in
            by_test (ltb (length (mine i f)) (length (own i f)))
            (λ u. absurd (not_begun (record { takes_one = rw e one; not_all = rw e (ltb-true (length (mine i f)) (length (own i f)) u) })))
            (λ u.
            let all = ltb-false (length (mine i f)) (length (own i f)) u in
            let n = length-take (k - before p text i) (own i f) in
            absurd (not_whole (record { is_planned = is_wanted i e (omega arith); all = rw e (take_all (k - before p text i) (own i f) (omega arith)) }))))
            (λ t. unchanged i e (no_elements (mine i f) (ltb-false 0 (length (mine i f)) t)))

    -- the stores of two fields are not both begun and not all made
    pub one_begun : (i j : ℕ) → Begun p text k i → Begun p text k j → i ≡ j
    one_begun i j a b =
        by_test (ltb i j)
        (λ t. absurd (not_both i j (ltb-true i j t) a b))
        (λ t.
        by_test (ltb j i)
        (λ u. absurd (not_both j i (ltb-true j i u) b a))
        (λ u. omega (arith, ltb-false i j t, ltb-false j i u)))
      where
        not_both : (i j : ℕ) → i < j → Begun p text k i → Begun p text k j → ⊥
        not_both i j l a b = go (slice_get luminaire_fields i) (slice_get luminaire_fields j) refl refl
          where
            go : (o q : Option LuminaireField) → slice_get luminaire_fields i ≡ o → slice_get luminaire_fields j ≡ q → ⊥
            go None q e d = omega (arith, (rw e at a.not_all))
            go (Some f) None e d = omega (arith, (rw d at b.not_all))
            go (Some f) (Some h) e d =
                let turn = in_turn own luminaire_fields i j e d l in
                let first : length (mine i f) < length (own i f) = rw e at a.not_all in
                let second : 1 ≤ length (mine j h) = rw d at b.takes_one in
                omega (arith, length-take (k - before p text i) (own i f), length-take (k - before p text j) (own j h))

    pub cut_outside : (j : ℕ) → ((i : ℕ) (f : LuminaireField) → slice_get luminaire_fields i ≡ Some f → f.offset ≤ j → j < field_end f → ⊥) → slice_get cut j ≡ slice_get old j
    cut_outside j out =
        stored_elsewhere j (take k (stores_of p text)) old
        (each_take (λ (s : Store). j ≢ s.offset) k (stores_of p text)
        (subst (Each (λ (s : Store). j ≢ s.offset)) (sym (by_field p.numbers p.text_field text))
        (each_gather (λ (s : Store). j ≢ s.offset) own luminaire_fields
        (λ i f e. each_map (InField f) (λ (s : Store). j ≢ s.offset) (λ s a is. out i f e (subst (λ (n : ℕ). f.offset ≤ n) (sym is) a.0) (subst (λ (n : ℕ). n < field_end f) (sym is) a.1)) (own i f) (in_field p.numbers p.text_field text i f)))))

pub every_field_has_its_share : EveryFieldHasItsShare
every_field_has_its_share p text k i = go (slice_get luminaire_fields i) refl
  where
    go : (o : Option LuminaireField) → slice_get luminaire_fields i ≡ o
        → take (length (stores_for p text i)) (drop (before p text i) (take k (stores_of p text))) ≡ taken_in p text k i
    go None e = rw e (sym (take-nil (k - before p text i)))
    go (Some f) e =
        rw (e, by_field p.numbers p.text_field text)
        (share (stores_at p.numbers p.text_field text) luminaire_fields table_rises (λ i f _. in_field p.numbers p.text_field text i f) i e k)

-- ---- a number that is wanted is shown

-- one that is shown says nothing of part 209
no_209 : (r : NumberRule) (v : LuminaireFormat) (n : ℕ) → shows r v n ≡ true → says209 r n ≡ false
no_209 Year v n t = refl
no_209 Week v n t = refl
no_209 Power v n t = refl
no_209 MainsVoltage v n t = refl
no_209 LightOutput v n t = refl
no_209 Cri v n t = refl
no_209 Cct v n t = ne_eqb n 65534 (λ e. omega (arith, leb-true n 17000 t))
no_209 LightDistributionType v n t = refl
no_209 LampCurrent v n t = refl

pub every_wanted_number_shown : EveryWantedNumberShown
every_wanted_number_shown old p text is_old accepted i f patch r value e kind w =
    number_wanted old p text is_old accepted 0 i e patch r kind value w
    ∙ ap (λ (o : Option LuminaireFormat). Some (a_number (number_read r o (Some (low_bytes f.len value))))) may.is_format
    ∙ ap (λ (n : ℕ). Some (a_number (Some (value_in r may.format n)))) (number_low_bytes f.len value ∙ mod-eq_of_lt small)
    ∙ (rw (shown, no_209 r may.format value shown))
  where
    may : MayWrite old p text is_old accepted f
    may = may_number old p text is_old accepted 0 i e patch r kind value w

    takes : accepts_number f may.format value ≡ true
    takes = accepted_number p text (sound old p text is_old accepted) i e kind w may.is_format

    shown : shows r may.format value ≡ true
    shown = ap (λ (k : FieldKind). shown_by k may.format value) (sym kind) ∙ first_true (shown_by f.kind may.format value) (fits f.len value) takes

    small : value < 2 ^ (8 * f.len)
    small = ltb-true value (2 ^ (8 * f.len)) (second_true (shown_by f.kind may.format value) (fits f.len value) takes)
