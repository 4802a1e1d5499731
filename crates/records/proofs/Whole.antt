-- The theorems on texts that are whole.
-- Assumes nothing.
use Rattle.std.specs.Prelude.{None, Option, Some, slice_get}
use Rattle.std.specs.List.{concat}
use mathlib.Core.Path.{◌≡◌, refl, sym, ap, ◌∙◌, subst}
use mathlib.Core.Bool.{Bool, true, ◌&&◌, true≢false}
use mathlib.Core.List.{List, [], ◌∷◌, ◌++◌}
use Prim.Native.Nat.{ℕ, zero, suc, ◌-◌, ◌≤◌, ◌<◌}
use native.Mathlib.Nat.{not-suc-le-zero}
use native.Mathlib.Omega.{arith}
use borrow.Author.Tests.{le-leb, leb-true, leb-false}
use lib.Dec.{leb}
use lib.ListN.{length, take, drop, replicate, length-append, length-drop, length-replicate, take-append-drop}
use lib.Seq.{take_at, length-take-le}
use Rattle.bus.specs.declared.part251.LuminaireFormat.{LuminaireFormat}
use Rattle.bus.proofs.Tests.{by_test, first_true, second_true}
use Rattle.bus.proofs.Lists.{laid_whole}
use Rattle.bank.specs.declared.luminaire_write.LuminaireTextField.{LuminaireTextField}
use Rattle.bank.specs.declared.luminaire_write.FieldKind.{FieldKind}
use Rattle.bank.specs.declared.luminaire_write.FieldKind.TheVariants.{LayoutId, Number, Text}
use Rattle.bank.specs.declared.luminaire_write.LuminaireField.{LuminaireField}
use Rattle.bank.specs.Fields.{luminaire_fields, is_text_kind, accepts_text, printable}
use Rattle.records.specs.Places.{field_at}
use Rattle.records.specs.Utf8.{sequence_len}
use Rattle.records.specs.Text.{until_zero, piece, taken_len, pieces_behind, pieces, fitting, escaped, room_in, shown_text, is_whole, text_in, Piece, copied, an_escape, StandFor, EveryByteHasItsPiece, letters, LeftOut, SaysWhole, WholeExactly, RegionWholeExactly, EveryLimitHasRoom}
use Rattle.records.specs.Luminaire.{an_id, a_number, a_text, limit_for, text_read, reading, having, format_at, in_format, EveryTextSaysWhole, AbsentNeverWhole, AcceptedTextWhole}
use Rattle.records.proofs.Table.{entry_passes}
use Rattle.records.proofs.Sequences.{part_of}
use Rattle.records.proofs.Texts.{taken_part, pieces_next, fitting_in, all_fit, within_limit, printable_reads_as_itself}

-- ---- what the pieces of a text stand for

module _ (b : ℕ) (bs : List ℕ) where
  abbrev text : List ℕ
  text = b ∷ bs

  first_piece : Piece text (piece text) (drop (taken_len text) text)
  first_piece = by (sequence_len text) refl
    where
      by : (o : Option ℕ) → sequence_len text ≡ o → Piece text (piece text) (drop (taken_len text) text)
      by None e = rw e (an_escape b e refl refl)
      by (Some n) e = rw e (copied (e ∙ ap Some (sym (length-take-le n text (part_of text e).1))) (sym (take-append-drop n text)))

stand_for : (n : ℕ) (bytes : List ℕ) → length bytes ≤ n → StandFor bytes (pieces bytes)
unfolding pieces_behind
stand_for n [] h = refl
stand_for zero (b ∷ bs) h = absurd (not-suc-le-zero h)
stand_for (suc n) (b ∷ bs) h =
    let some = taken_part (b ∷ bs) (omega arith) in
    let rest = drop (taken_len (b ∷ bs)) (b ∷ bs) in
    let few : length rest ≤ n = omega (arith, length-drop (taken_len (b ∷ bs)) (b ∷ bs), some) in
    subst (StandFor (b ∷ bs)) (sym (pieces_next (b ∷ bs) (omega arith))) (rest, first_piece b bs, stand_for n rest few)

pub every_byte_has_its_piece : EveryByteHasItsPiece
every_byte_has_its_piece bytes = stand_for (length bytes) bytes (omega arith)

-- ---- what a text says

-- of pieces that do not all fit, the first that is left out
left_out : (room : ℕ) (ps : List (List ℕ)) → room < length (concat ps) → LeftOut room (fitting room ps) ps
unfolding fitting
left_out room [] h = absurd (not-suc-le-zero h)
left_out room (p ∷ ps) h =
    by_test (leb (length p) room)
    (λ t.
    let fits = leb-true (length p) room t in
    let l = left_out (room - length p) ps (omega (arith, length-append p (concat ps))) in
    let all = fitting_in room p ps fits in
    record {
      before = p ∷ l.before;
      first = l.first;
      behind = l.behind;
      parts = ap (λ (qs : List (List ℕ)). p ∷ qs) l.parts;
      is = all ∙ ap (λ (r : List ℕ). p ++ r) l.is;
      no_room = omega (arith, ap length all, length-append p (fitting (room - length p) ps), l.no_room, fits);
    })
    (λ t. record {
      before = [];
      first = p;
      behind = ps;
      parts = refl;
      is = rw t refl;
      no_room = rw t (omega (arith, leb-false (length p) room t));
    })

module _ (limit : ℕ) (bytes : List ℕ) where
  letters_are : letters (shown_text limit bytes) ≡ escaped (room_in limit) bytes
  letters_are =
      let text = escaped (room_in limit) bytes in
      let fit : length text ≤ length (replicate limit 0) = omega (arith, within_limit (room_in limit) bytes, length-replicate {A = ℕ} limit 0) in
      ap (take (length text)) (laid_whole text (replicate limit 0) fit) ∙ take_at text _ _ refl

  says_whole : SaysWhole limit bytes (Some (shown_text limit bytes))
  says_whole =
      let all = concat (pieces bytes) in
      let room = room_in limit in
      record {
        shown = shown_text limit bytes;
        is = refl;
        yes = λ t. letters_are ∙ all_fit room (pieces bytes) (leb-true (length all) room t);
        only = λ e. le-leb (length all) room (omega (arith, within_limit room bytes, ap length (sym letters_are ∙ e)));
        no = λ t. subst (λ (r : List ℕ). LeftOut room r (pieces bytes)) (sym letters_are) (left_out room (pieces bytes) (leb-false (length all) room t));
        told = refl;
      }

pub whole_exactly : WholeExactly
whole_exactly = says_whole

-- a region that is wholly present
in_region : (limit : ℕ) {o : Option (List ℕ)} {region : List ℕ} → o ≡ Some region → SaysWhole limit (until_zero region) (text_in limit o)
in_region limit {region = region} e = subst (SaysWhole limit (until_zero region)) (sym (ap (text_in limit) e)) (says_whole limit (until_zero region))

pub region_whole_exactly : RegionWholeExactly
region_whole_exactly start bytes t limit =
    record {
      present = λ region e. in_region limit e;
      lacking = λ e. ap (text_in limit) e;
    }

pub every_limit_has_room : EveryLimitHasRoom
every_limit_has_room limit h = omega (arith, h)

-- a format that has a field
has_format : (f : LuminaireField) (o : Option LuminaireFormat) → in_format f o ≡ true → (v : LuminaireFormat) × (having f o ≡ Some v)
has_format f None e = absurd (true≢false (sym e))
has_format f (Some v) e = (v, rw e refl)

pub every_text_says_whole : EveryTextSaysWhole
every_text_says_whole start bytes f t region kind has there =
    let format = having f (format_at start bytes) in
    let field = field_at start bytes f.offset f.len in
    let v = has_format f (format_at start bytes) has in
    record {
      text = text_read t format field;
      is = ap (λ (k : FieldKind). reading k format field) kind;
      says = rw v.1 (in_region (limit_for t) there);
    }

pub absent_never_whole : AbsentNeverWhole
absent_never_whole (an_id id) e = refl
absent_never_whole (a_number n) e = refl
absent_never_whole (a_text None) e = refl
absent_never_whole (a_text (Some t)) e = absurd (true≢false e)

-- ---- the table: there is room for every text, so none that is accepted is cut when it is shown

abbrev fits_room : FieldKind → ℕ → Bool
fits_room LayoutId n = true
fits_room (Number patch r) n = true
fits_room (Text t) n = leb n (room_in (limit_for t))

table_fits : (i : ℕ) {f : LuminaireField} → slice_get luminaire_fields i ≡ Some f → fits_room f.kind f.len ≡ true
unfolding luminaire_fields
table_fits i e = entry_passes (λ (f : LuminaireField). fits_room f.kind f.len) luminaire_fields i refl e

pub record Fits (f : LuminaireField) (room : ℕ) (text : List ℕ) : Type 0 where
  pub few : length text ≤ f.len
  pub within : f.len ≤ room
  pub plain : printable text ≡ true

pub accepted_fits : (i : ℕ) {f : LuminaireField} {t : LuminaireTextField} (text : List ℕ) →
    slice_get luminaire_fields i ≡ Some f → f.kind ≡ Text t → accepts_text f text ≡ true → Fits f (room_in (limit_for t)) text
accepted_fits i {f} {t} text e kind a =
    let both = second_true (is_text_kind f.kind) (leb (length text) f.len && printable text) a in
    record {
      few = leb-true (length text) f.len (first_true (leb (length text) f.len) (printable text) both);
      within = leb-true f.len (room_in (limit_for t)) (ap (λ (k : FieldKind). fits_room k f.len) (sym kind) ∙ table_fits i e);
      plain = second_true (leb (length text) f.len) (printable text) both;
    }

pub accepted_text_whole : AcceptedTextWhole
accepted_text_whole i f t text behind e kind a z =
    let fits = accepted_fits i text e kind a in
    ap is_whole (printable_reads_as_itself (limit_for t) text behind fits.plain (omega (arith, fits.few, fits.within)) z)
