-- The claim: a cut plan, read back.
-- Assumes nothing.
use Rattle.std.specs.Prelude.{None, Some, option_map, slice_get}
use mathlib.Core.Path.{◌≡◌, refl, sym, ap, ◌∙◌}
use mathlib.Core.Bool.{Bool, true, false, cond, true≢false}
use mathlib.Core.List.{List, ◌∷◌, ◌++◌}
use Prim.Native.Nat.{ℕ, ◌+◌, ◌≤◌}
use native.Mathlib.Nat.{zero-add}
use native.Mathlib.Omega.{arith}
use borrow.Author.Tests.{eq-eqb, eqb-true}
use lib.ListN.{length, take, drop}
use lib.Seq.{take_all, take_at, length-take-le}
use Rattle.bank.specs.declared.luminaire_write.LuminaireTextField.{LuminaireTextField}
use Rattle.bank.specs.declared.luminaire_write.FieldKind.TheVariants.{Text}
use Rattle.bank.specs.declared.luminaire_write.LuminaireField.{LuminaireField}
use Rattle.bank.specs.Fields.{luminaire_fields}
use Rattle.bank.specs.declared.layout.ChunkMode.{ChunkMode}
use Rattle.bank.specs.declared.layout.ChunkMode.TheVariants.{Plain}
use Rattle.bank.specs.declared.read_out.ReadOut.{ReadOut}
use Rattle.bank.specs.Chunk.{ChunkRule, Bounded, chunk_in}
use Rattle.bank.specs.ReadOut.{laid}
use Rattle.bank.specs.Calls.{Call, State, state_of, answer, answers_of, accepted, HoldsChunks, Behind}
use Rattle.bank.proofs.Modes.{every_mode_bounded}
use Rattle.bank.proofs.Reading.{every_read_out_started_exactly}
use Rattle.bank.proofs.Calls.{answer_same, answer_behind, every_list_of_calls, every_chunk_of_bank}
use Rattle.records.specs.declared.luminaire_write.Plan.{Plan}
use Rattle.records.specs.Places.{is_there}
use Rattle.records.specs.Text.{as_text}
use Rattle.records.specs.Luminaire.{a_text, limit_for, reads, is_whole_text}
use Rattle.records.specs.Writes.{is_for}
use Rattle.records.specs.Plan.{stores_of}
use Rattle.records.specs.Cut.{cut_bank}
use Rattle.records.specs.Claim.{begin, state_after, chunks_of, fetched, standing, Done, now_of, wanted, begun, Answered, CutPlanReadsBack, EveryModeReadsBack, EveryPlannedTextWhole}
use Rattle.records.proofs.CutFields.{cut_outside, cut_whole, one_begun, cut_begun, cut_others, length_cut}

same_out : {r s : ReadOut} → r.bank ≡ s.bank → r.length ≡ s.length → r.next ≡ s.next → r.mode ≡ s.mode → r ≡ s
same_out {r} {s} a b c d =
    ap (λ (n : ℕ). record { bank = n; length = r.length; next = r.next; mode = r.mode }) a
    ∙ ap (λ (n : ℕ). record { bank = s.bank; length = n; next = r.next; mode = r.mode }) b
    ∙ ap (λ (n : ℕ). record { bank = s.bank; length = s.length; next = n; mode = r.mode }) c
    ∙ ap (λ (m : ChunkMode). record { bank = s.bank; length = s.length; next = s.next; mode = m }) d

-- ---- a read-out of any bank whose bytes the chunks hold

module _ (mode : ChunkMode) (bank buffer : List ℕ) where
  abbrev rule : ChunkRule
  rule = chunk_in mode

  abbrev bounded : Bounded rule
  bounded = every_mode_bounded mode

  abbrev from_start : State
  from_start = begin mode bank buffer

  behind : (calls : List Call) → Behind rule from_start calls
  behind calls = every_list_of_calls rule bounded from_start (omega arith) calls

  stands : (calls : List Call) → (state_after mode bank buffer calls).out ≡ standing mode bank buffer calls
  stands calls = let b = behind calls in same_out b.bank_stays b.length_stays b.next_is b.mode_stays

  answered : (calls before : List Call) (c : Call) (rest : List Call) → calls ≡ before ++ c ∷ rest → Answered mode bank buffer calls before c
  answered calls before c rest e =
      record {
        next_is = stands before;
        answers_so =
            ap (λ (cs : List Call). slice_get (answers_of rule from_start cs) (length before)) e
            ∙ answer_behind rule bounded from_start before c rest
            ∙ ap Some (answer_same rule bounded (state_after mode bank buffer before) buffer c (behind before).room_stays)
            ∙ ap (λ (r : ReadOut). Some (answer rule (state_of r buffer) c)) (stands before);
      }

  module _ (calls : List Call) (held : HoldsChunks rule bank from_start calls) where
    abbrev next : ℕ
    next = (state_after mode bank buffer calls).out.next

    buffer_holds : (state_after mode bank buffer calls).buffer ≡ take next bank ++ drop next buffer
    unfolding laid
    buffer_holds =
        let b = behind calls in
        let n : fetched mode bank buffer calls ≡ next = omega (arith, b.next_is) in
        let bytes = every_chunk_of_bank rule bounded bank from_start (omega arith) calls held ∙ ap (λ (k : ℕ). take k bank) n in
        let few : length (take next bank) ≡ next = length-take-le next bank b.within in
        b.buffer_is
        ∙ ap (λ (l : List ℕ). l ++ drop (0 + length l) buffer) bytes
        ∙ ap (λ (k : ℕ). take next bank ++ drop k buffer) (zero-add (length (take next bank)) ∙ few)

    at_end : length bank ≤ length (chunks_of mode bank buffer calls) → Done mode bank buffer calls
    at_end h = let b = behind calls in eq-eqb next (state_after mode bank buffer calls).out.length (b.ends (omega arith) ∙ sym b.length_stays)

    -- once done, the buffer's first bytes are the bank's
    now_is : Done mode bank buffer calls → now_of mode bank buffer calls ≡ bank
    now_is done =
        let b = behind calls in
        let e : next ≡ length bank = eqb-true next (state_after mode bank buffer calls).out.length done ∙ b.length_stays in
        ap (take (length bank)) (buffer_holds ∙ ap (λ (n : ℕ). take n bank ++ drop n buffer) e ∙ ap (λ (l : List ℕ). l ++ drop (length bank) buffer) (take_all (length bank) bank (omega arith)))
        ∙ take_at bank (drop (length bank) buffer) (length bank) refl

-- ---- the claim

pub every_mode_reads_back : EveryModeReadsBack
every_mode_reads_back mode old p text k bank buffer calls is_old accepted is held =
    record {
      starts = (every_read_out_started_exactly 1 (length bank) mode).accepted (omega (arith, is_old.few, ap length is ∙ length_cut old p text is_old accepted k));
      each_call = λ before c rest e. answered mode bank buffer calls before c rest e;
      buffer_is = buffer_holds mode bank buffer calls held;
      ends = at_end mode bank buffer calls held;
      outside = λ done j out. ap (λ (l : List ℕ). slice_get l j) (now done) ∙ cut_outside old p text is_old accepted k j out;
      whole = λ done i m. ap (λ (l : List ℕ). reads 0 l i) (now done) ∙ cut_whole old p text is_old accepted k i m;
      only_one = λ done i j a b. one_begun old p text is_old accepted k i j a b;
      in_between = λ done i m. ap (λ (l : List ℕ). reads 0 l i) (now done) ∙ cut_begun old p text is_old accepted k i m;
      others = λ done i a b. ap (λ (l : List ℕ). reads 0 l i) (now done) ∙ cut_others old p text is_old accepted k i a b;
    }
  where
    now : Done mode bank buffer calls → now_of mode bank buffer calls ≡ cut_bank (stores_of p text) k old
    now done = now_is mode bank buffer calls held done ∙ is

pub cut_plan_reads_back : CutPlanReadsBack
cut_plan_reads_back = every_mode_reads_back Plain

-- ---- what is wanted of a text, and one that is begun, is whole

module _ (p : Plan) (text : List ℕ) (i : ℕ) {f : LuminaireField} {t : LuminaireTextField} (e : slice_get luminaire_fields i ≡ Some f) (kind : f.kind ≡ Text t) where
  wanted_whole : is_there (wanted p text i) ≡ true → option_map is_whole_text (wanted p text i) ≡ Some true
  wanted_whole h = rw (e, kind) (by (is_for p.text_field i) (rw (e, kind) at h))
    where
      by : (w : Bool) → is_there (cond w (Some (a_text (as_text (limit_for t) text))) None) ≡ true
          → option_map is_whole_text (cond w (Some (a_text (as_text (limit_for t) text))) None) ≡ Some true
      by true h = refl
      by false h = absurd (true≢false (sym h))

  begun_whole : (old : List ℕ) (new : ℕ) → option_map is_whole_text (begun p text old new i) ≡ Some true
  begun_whole old new = rw (e, kind) refl

pub every_planned_text_whole : EveryPlannedTextWhole
every_planned_text_whole mode old p text k bank buffer calls is_old accepted is held done i f t e kind =
    let back = every_mode_reads_back mode old p text k bank buffer calls is_old accepted is held in
    record {
      made = λ m. ap (option_map is_whole_text) (back.whole done i m) ∙ wanted_whole p text i e kind m.is_planned;
      begun_too = λ m. ap (option_map is_whole_text) (back.in_between done i m) ∙ begun_whole p text i e kind old _;
    }
