-- Laws of a text: where it ends, its pieces, and those that fit.
-- Assumes nothing.
use Rattle.std.specs.Prelude.{None, Option, Some, unwrap_or, cond, eqb, ltb, not}
use Rattle.std.specs.List.{position_or_len, concat}
use Rattle.std.proofs.lemmas.Bool.{ltb-false}
use Rattle.std.proofs.lemmas.List.Sums.{prefix_len-le-length}
use Rattle.std.proofs.lemmas.List.{take_rest, drop-take}
use Rattle.std.proofs.lemmas.Option.{same_Some}
use mathlib.Core.Path.{◌≡◌, refl, sym, ap, ◌∙◌}
use mathlib.Core.Bool.{Bool, true, false}
use mathlib.Core.List.{List, [], ◌∷◌, ◌++◌, append-nil, append_assoc}
use Prim.Native.Nat.{ℕ, zero, suc, ◌+◌, ◌-◌, ◌≤◌, ◌<◌, zero-le}
use native.Mathlib.Nat.{not-suc-le-zero}
use Rattle.std.proofs.Math.Numerals.{one-add}
use native.Mathlib.Omega.{arith}
use borrow.Author.Tests.{le-leb, lt-leb, leb-true, leb-false, ne_eqb, eqb-true}
use borrow.Rule.Slice.PartMut.{put_mid}
use lib.Dec.{leb}
use lib.ListN.{length, take, drop, length-take, length-drop, length-append, take-append-drop}
use lib.Seq.{take_at, drop_at, drop-drop}
use Rattle.bus.specs.Value.{laid_into}
use Rattle.bus.proofs.Tests.{by_test}
use Rattle.bus.proofs.Lists.{laid_whole, no_element}
use Rattle.bank.specs.Fields.{printable}
use Rattle.bank.proofs.Texts.{head_printable}
use Rattle.records.specs.declared.memory_bank_parser.Pushed.{Pushed}
use Rattle.records.specs.Utf8.{sequence_len}
use Rattle.records.specs.Text.{until_zero, piece, taken_len, pieces_behind, pieces, fitting, escaped, fixed, room_in, shown_text, WithinLimit, EndsAtZero, EveryTextEndsAtZero, PrintableReadsAsItself, ZeroReadsEmpty}
use Rattle.records.specs.Steps.{pushed, after_push}
use Rattle.records.proofs.Sequences.{part_of, one_byte}

-- what is before the first 00, by its place
pub up_to_zero : (bs : List ℕ) → take (position_or_len (λ b. eqb b 0) bs) bs ≡ until_zero bs
unfolding until_zero
up_to_zero [] = refl
up_to_zero (b ∷ bs) =
    by_test (eqb b 0)
    (λ t. rw t refl)
    (λ t. rw (t, one-add) (ap (λ (r : List ℕ). b ∷ r) (up_to_zero bs)))

-- and where it ends
ends_at_zero : (bs : List ℕ) → EndsAtZero bs
unfolding until_zero
ends_at_zero [] = record { behind = []; parts = refl; at_zero = λ b e. no_element e; none_before = refl }
ends_at_zero (b ∷ bs) =
    by_test (eqb b 0)
    (λ t. record {
      behind = b ∷ bs;
      parts = rw t refl;
      at_zero = λ c e. sym (same_Some _ _ e) ∙ eqb-true b 0 t;
      none_before = rw t refl;
    })
    (λ t.
    let r = ends_at_zero bs in
    record {
      behind = r.behind;
      parts = rw t (ap (λ (q : List ℕ). b ∷ q) r.parts);
      at_zero = r.at_zero;
      none_before = rw (t, t) r.none_before;
    })

pub every_text_ends_at_zero : EveryTextEndsAtZero
every_text_ends_at_zero = ends_at_zero

-- the place of the first that passes, or of the end
pub place_or_end : (test : ℕ → Bool) (bs : List ℕ) → (let n = position_or_len test bs in unwrap_or (cond (ltb n (length bs)) (Some n) None) (length bs) ≡ n)
place_or_end test bs =
    let n = position_or_len test bs in
    by_test (ltb n (length bs))
    (λ t. rw t refl)
    (λ t. rw t (omega (arith, ltb-false n (length bs) t, prefix_len-le-length (λ b. not (test b)) bs)))

-- ---- pieces

-- bytes that belong to the piece before are passed over
behind : (skip : ℕ) (bs : List ℕ) → pieces_behind skip bs ≡ pieces (drop skip bs)
unfolding pieces_behind
behind zero bs = refl
behind (suc k) [] = refl
behind (suc k) (b ∷ bs) = behind k bs

-- a piece stands for some of the bytes
pub taken_part : (bytes : List ℕ) → 0 < length bytes → (0 < taken_len bytes) × (taken_len bytes ≤ length bytes)
taken_part bytes h = by (sequence_len bytes) refl
  where
    by : (o : Option ℕ) → sequence_len bytes ≡ o → (0 < unwrap_or o 1) × (unwrap_or o 1 ≤ length bytes)
    by None e = (omega arith, h)
    by (Some n) e = part_of bytes e

-- the first piece, and those behind its bytes
pub pieces_next : (bytes : List ℕ) → 0 < length bytes → pieces bytes ≡ piece bytes ∷ pieces (drop (taken_len bytes) bytes)
unfolding pieces_behind
pieces_next [] h = absurd (not-suc-le-zero h)
pieces_next (b ∷ bs) h =
    let n = taken_len (b ∷ bs) in
    let e : suc (n - 1) ≡ n = omega (arith, (taken_part (b ∷ bs) h).0) in
    ap (λ (ps : List (List ℕ)). piece (b ∷ bs) ∷ ps) (behind (n - 1) bs ∙ ap (λ (m : ℕ). pieces (drop m (b ∷ bs))) e)

-- a first piece that fits
pub fitting_in : (room : ℕ) (p : List ℕ) (ps : List (List ℕ)) → length p ≤ room → fitting room (p ∷ ps) ≡ p ++ fitting (room - length p) ps
unfolding fitting
fitting_in room p ps h = rw (le-leb (length p) room h)

-- what is told of a piece that was pushed
record Taken (bytes out : List ℕ) (p : Pushed) : Type 0 where
  some_bytes : 0 < length bytes
  room : length (piece bytes) ≤ length out
  taken : p.taken ≡ taken_len bytes
  len : p.len ≡ length (piece bytes)

taken_lem : (bytes out : List ℕ) {p : Pushed} → pushed bytes out ≡ Some p → Taken bytes out p
taken_lem [] out e = no_element e
taken_lem (b ∷ bs) out {p} e =
    by_test (leb (length (piece (b ∷ bs))) (length out))
    (λ t.
    let same : record { taken = taken_len (b ∷ bs); len = length (piece (b ∷ bs)) } ≡ p = same_Some _ _ (rw t at e) in
    record {
      some_bytes = omega arith;
      room = leb-true (length (piece (b ∷ bs))) (length out) t;
      taken = ap (λ (q : Pushed). q.taken) (sym same);
      len = ap (λ (q : Pushed). q.len) (sym same);
    })
    (λ t. no_element (rw t at e))

-- and where none was: no piece fits
none_taken : (bytes out : List ℕ) → pushed bytes out ≡ None → (fitting (length out) (pieces bytes) ≡ []) × (after_push (piece bytes) out ≡ out)
unfolding pieces_behind fitting
none_taken [] out e = (refl, rw (le-leb 0 (length out) zero-le))
none_taken (b ∷ bs) out e =
    by_test (leb (length (piece (b ∷ bs))) (length out))
    (λ t. no_element (sym (rw t at e)))
    (λ t. (rw t, rw t))

-- nothing is left exactly where all the pieces of the rest fit
none_left : (bytes out : List ℕ) → pushed bytes out ≡ None → eqb (length bytes) 0 ≡ leb (length (concat (pieces bytes))) (length out)
unfolding pieces_behind
none_left [] out e = sym (le-leb 0 (length out) zero-le)
none_left (b ∷ bs) out e =
    let p = piece (b ∷ bs) in
    by_test (leb (length p) (length out))
    (λ t. no_element (sym (rw t at e)))
    (λ t.
    let some : eqb (length (b ∷ bs)) 0 ≡ false = ne_eqb (length (b ∷ bs)) 0 (λ z. omega arith) in
    let more = pieces_behind (taken_len (b ∷ bs) - 1) bs in
    let over = leb-false (length p) (length out) t in
    some ∙ sym (lt-leb (length (p ++ concat more)) (length out) (rw (length-append p (concat more)) (omega arith))))

-- what is laid already, and a length in what is left
behind_laid : (laid more limit : ℕ) → laid ≤ limit → leb more (limit - laid) ≡ leb (laid + more) limit
behind_laid laid more limit h =
    by_test (leb more (limit - laid))
    (λ t. t ∙ sym (le-leb (laid + more) limit (omega (arith, leb-true more (limit - laid) t))))
    (λ t. t ∙ sym (lt-leb (laid + more) limit (omega (arith, leb-false more (limit - laid) t))))

-- ---- a text that is laid piece by piece: what is before the rest of it has become the first len of the slice, which may go as
-- far as there is room
pub record Laid (raw out₀ out : List ℕ) (room len : ℕ) (rest : List ℕ) : Type 0 where
  pub inside : room ≤ length out₀
  pub done : List ℕ
  pub long : length done ≡ len
  pub few : len ≤ room
  pub is : out ≡ done ++ drop len out₀
  pub goes_on : done ++ fitting (room - len) (pieces rest) ≡ escaped room raw
  pub all : done ++ concat (pieces rest) ≡ concat (pieces raw)

-- what is behind n elements of a part, and what is behind the part
behind_part : (xs : List ℕ) (i room n : ℕ) → i + n ≤ room → drop n (take (room - i) (drop i xs)) ++ drop room xs ≡ drop (i + n) xs
behind_part xs i room n h =
    let more = room - i - n in
    let parted : room - i ≡ n + more = omega arith in
    let at : i + n + more ≡ room = omega arith in
    ap (λ (m : ℕ). drop n (take m (drop i xs)) ++ drop room xs) parted
    ∙ ap (λ (r : List ℕ). r ++ drop room xs) (drop-take n more (drop i xs) ∙ ap (take more) (drop-drop n i xs))
    ∙ ap (λ (m : ℕ). take more (drop (i + n) xs) ++ drop m xs) (sym at)
    ∙ ap (λ (r : List ℕ). take more (drop (i + n) xs) ++ r) (sym (drop-drop more (i + n) xs))
    ∙ take-append-drop more (drop (i + n) xs)

-- a part was written
put_part : (xs ys : List ℕ) (i room : ℕ) → i ≤ room → put_mid i (room - i) xs ys ≡ take i xs ++ (ys ++ drop room xs)
put_part xs ys i room h =
    let at : i + (room - i) ≡ room = omega arith in
    ap (λ (r : List ℕ). take i xs ++ (ys ++ r)) (drop-drop (room - i) i xs ∙ ap (λ (m : ℕ). drop m xs) at)

module _ {raw out₀ out rest : List ℕ} {room len : ℕ} (l : Laid raw out₀ out room len rest) {r : Option Pushed} {after : List ℕ}
    (said : r ≡ pushed rest (take (room - len) (drop len out)))
    (stored : after ≡ after_push (piece rest) (take (room - len) (drop len out))) where
  kept : take len out ≡ l.done
  kept = ap (λ (r : List ℕ). take len r) l.is ∙ take_at l.done (drop len out₀) len l.long

  left : drop len out ≡ drop len out₀
  left = ap (λ (r : List ℕ). drop len r) l.is ∙ drop_at l.done (drop len out₀) len l.long

  room_left : length (take (room - len) (drop len out)) ≡ room - len
  room_left = omega (arith, length-take (room - len) (drop len out), ap length left, length-drop len out₀, l.inside)

  put : put_mid len (room - len) out after ≡ l.done ++ (after ++ drop room out)
  put = put_part out after len room l.few ∙ ap (λ (q : List ℕ). q ++ (after ++ drop room out)) kept

  -- what is behind n bytes of what is left
  unwritten : (n : ℕ) → len + n ≤ room → drop n (take (room - len) (drop len out)) ++ drop room out ≡ drop (len + n) out₀
  unwritten n h = behind_part out len room n h ∙ sym (drop-drop n len out) ∙ ap (drop n) left ∙ drop-drop n len out₀

  module _ {p : Pushed} (e : r ≡ Some p) where
    its : Taken rest (take (room - len) (drop len out)) p
    its = taken_lem rest (take (room - len) (drop len out)) (sym said ∙ e)

    -- some of what is left was taken
    pub within : (0 < p.taken) × (p.taken ≤ length rest)
    within = let t = its in rw t.taken (taken_part rest t.some_bytes)

    pub laid_on : Laid raw out₀ (put_mid len (room - len) out after) room (len + p.len) (take (length rest - p.taken) (drop p.taken rest))
    laid_on =
        let t = its in
        let n = length (piece rest) in
        let more = pieces (drop p.taken rest) in
        let less : room - len - n ≡ room - (len + n) = omega arith in
        let fits : len + n ≤ room = omega (arith, t.room, room_left, l.few) in
        let next : pieces rest ≡ piece rest ∷ more = pieces_next rest t.some_bytes ∙ rw t.taken refl in
        let shown : fitting (room - len) (pieces rest) ≡ piece rest ++ fitting (room - (len + n)) more =
        ap (fitting (room - len)) next
        ∙ fitting_in (room - len) (piece rest) more (omega (arith, fits))
        ∙ rw less refl
        in
        let pushed_so : after ≡ piece rest ++ drop n (take (room - len) (drop len out)) = rw (le-leb n (length (take (room - len) (drop len out))) t.room) at stored in
        rw (take_rest rest p.taken, t.len)
        (record {
          inside = l.inside;
          done = l.done ++ piece rest;
          long = length-append l.done (piece rest) ∙ ap (λ (m : ℕ). m + n) l.long;
          few = fits;
          is =
              put
              ∙ ap (λ (q : List ℕ). l.done ++ (q ++ drop room out)) pushed_so
              ∙ ap (λ (q : List ℕ). l.done ++ q) (append_assoc (piece rest) (drop n (take (room - len) (drop len out))) (drop room out) ∙ ap (λ (q : List ℕ). piece rest ++ q) (unwritten n fits))
              ∙ sym (append_assoc l.done (piece rest) (drop (len + n) out₀));
          goes_on = append_assoc l.done (piece rest) (fitting (room - (len + n)) more) ∙ ap (λ (r : List ℕ). l.done ++ r) (sym shown) ∙ l.goes_on;
          all = append_assoc l.done (piece rest) (concat more) ∙ ap (λ (r : List ℕ). l.done ++ r) (sym (ap concat next)) ∙ l.all;
        })

  -- no further piece: all is laid that is shown
  pub all_laid : r ≡ None → (len ≡ length (escaped room raw)) × (put_mid len (room - len) out after ≡ laid_into (escaped room raw) out₀)
  all_laid e =
      let text = escaped room raw in
      let none = none_taken rest (take (room - len) (drop len out)) (sym said ∙ e) in
      let ends : fitting (room - len) (pieces rest) ≡ [] = ap (λ (n : ℕ). fitting n (pieces rest)) (sym room_left) ∙ none.0 in
      let all : l.done ≡ text = sym (append-nil l.done) ∙ ap (λ (r : List ℕ). l.done ++ r) (sym ends) ∙ l.goes_on in
      let n : len ≡ length text = sym l.long ∙ ap length all in
      let fit : length text ≤ length out₀ = omega (arith, n, l.few, l.inside) in
      let same : len + 0 ≡ length text = omega (arith, n) in (
        n,
        put
            ∙ ap (λ (q : List ℕ). l.done ++ (q ++ drop room out)) (stored ∙ none.1)
            ∙ ap (λ (q : List ℕ). l.done ++ q) (unwritten 0 (omega (arith, l.few)))
            ∙ ap (λ (q : List ℕ). q ++ drop (len + 0) out₀) all
            ∙ ap (λ (m : ℕ). text ++ drop m out₀) same
            ∙ sym (laid_whole text out₀ fit),
      )

  -- and nothing is left exactly where all its pieces fit
  pub nothing_left : r ≡ None → eqb (length rest) 0 ≡ leb (length (concat (pieces raw))) room
  nothing_left e =
      let more = concat (pieces rest) in
      let long : length l.done + length more ≡ length (concat (pieces raw)) = sym (length-append l.done more) ∙ ap length l.all in
      none_left rest (take (room - len) (drop len out)) (sym said ∙ e)
      ∙ ap (leb (length more)) room_left
      ∙ behind_laid len (length more) room l.few
      ∙ ap (λ (n : ℕ). leb n room) (ap (λ (n : ℕ). n + length more) (sym l.long) ∙ long)

-- ---- the theorems on texts

fitting_within : (room : ℕ) (ps : List (List ℕ)) → length (fitting room ps) ≤ room
unfolding fitting
fitting_within room [] = zero-le
fitting_within room (p ∷ ps) =
    let behind = fitting_within (room - length p) ps in
    by_test (leb (length p) room)
    (λ t.
    let h = leb-true (length p) room t in
    rw (t, length-append p (fitting (room - length p) ps)) (omega arith))
    (λ t. rw t zero-le)

pub within_limit : WithinLimit
within_limit limit bytes = fitting_within limit (pieces bytes)

not_zero : {b : ℕ} → 0x20 ≤ b → b ≡ 0 → ⊥
not_zero h z = omega arith

before_zero_lem : (text behind : List ℕ) → printable text ≡ true → until_zero (text ++ behind) ≡ text ++ until_zero behind
unfolding until_zero printable
before_zero_lem [] behind e = refl
before_zero_lem (b ∷ bs) behind e =
    let p = head_printable b bs e in
    rw (ne_eqb b 0 (λ z. not_zero p.0 z)) (ap (λ (r : List ℕ). b ∷ r) (before_zero_lem bs behind p.2))

-- pieces that fit are all shown
pub all_fit : (room : ℕ) (ps : List (List ℕ)) → length (concat ps) ≤ room → fitting room ps ≡ concat ps
unfolding fitting
all_fit room [] h = refl
all_fit room (p ∷ ps) h =
    let long = length-append p (concat ps) in
    fitting_in room p ps (omega arith) ∙ ap (λ (r : List ℕ). p ++ r) (all_fit (room - length p) ps (omega arith))

-- a text whose pieces fit is shown as these, and marked whole
shown_whole : (limit : ℕ) (bytes : List ℕ) → length (concat (pieces bytes)) ≤ room_in limit → shown_text limit bytes ≡ fixed limit true (concat (pieces bytes))
shown_whole limit bytes h =
    ap (λ (whole : Bool). fixed limit whole (escaped (room_in limit) bytes)) (le-leb (length (concat (pieces bytes))) (room_in limit) h)
    ∙ ap (fixed limit true) (all_fit (room_in limit) (pieces bytes) h)

-- the pieces of a printable text are its bytes
printable_pieces : (text : List ℕ) → printable text ≡ true → concat (pieces text) ≡ text
unfolding printable pieces_behind
printable_pieces [] e = refl
printable_pieces (b ∷ bs) e =
    let p = head_printable b bs e in
    rw (one_byte b bs (omega (arith, p.1))) (ap (λ (r : List ℕ). b ∷ r) (printable_pieces bs p.2))

pub printable_reads_as_itself : PrintableReadsAsItself
printable_reads_as_itself limit text behind e h z =
    let cut : until_zero (text ++ behind) ≡ text = before_zero_lem text behind e ∙ ap (λ (r : List ℕ). text ++ r) z ∙ append-nil text in
    let all = printable_pieces text e in
    ap Some (ap (shown_text limit) cut ∙ shown_whole limit text (rw all h) ∙ ap (fixed limit true) all)

pub zero_reads_empty : ZeroReadsEmpty
unfolding until_zero pieces_behind
zero_reads_empty limit behind = ap Some (shown_whole limit [] zero-le)
