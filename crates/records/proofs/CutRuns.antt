-- Laws of what a run of a cut plan answers and leaves, and that the claim holds of it.
-- Assumes nothing.
use Rattle.std.specs.Prelude.{Err, None, Ok, Option, Result, Some, slice_get}
use mathlib.Core.Path.{◌≡◌, refl, sym, ap, ◌∙◌}
use mathlib.Core.List.{List, [], ◌∷◌}
use Prim.Native.Nat.{ℕ, suc, ◌≤◌, ◌<◌}
use native.Mathlib.Omega.{arith}
use borrow.Author.Tests.{le-ltb}
use lib.ListN.{length, take, length-append}
use Rattle.bus.specs.Value.{laid_into}
use Rattle.bus.proofs.Lists.{laid_at, laid_behind}
use Rattle.bank.specs.declared.refusal.Refusal.{Refusal}
use Rattle.bank.specs.declared.read_out.ReadOut.{ReadOut}
use Rattle.bank.specs.declared.luminaire_write.Bank1Layout.{Bank1Layout}
use Rattle.bank.specs.declared.call_list.Answer.{Answer}
use Rattle.bank.specs.Refusal.{Check, first_of, checked, tested}
use Rattle.bank.specs.Fields.{from_header}
use Rattle.bank.specs.declared.layout.ChunkMode.{ChunkMode}
use Rattle.bank.specs.Chunk.{ChunkRule, chunk_in}
use Rattle.bank.specs.ReadOut.{rule_of, fresh, invalid, starting}
use Rattle.bank.specs.Calls.{Call, State, state_of, step, after, answers_of}
use Rattle.bank.proofs.Checks.{refused_first, passed_first, not_both, told_ok, told_err, was_answered, was_refused}
use Rattle.records.specs.declared.luminaire_write.LuminaireNumbers.{LuminaireNumbers}
use Rattle.records.specs.declared.luminaire_write.Plan.{Plan}
use Rattle.records.specs.Plan.{plan_checks, stores_of}
use Rattle.records.specs.Cut.{cut_bank}
use Rattle.records.specs.Claim.{begin, CutReadsBack}
use Rattle.records.specs.CutRun.{plan_for, run_checks, cut_of, bank_behind, read_back, buffer_behind, answers_behind, EveryRunReadsBack, RunLeavesAll, EveryRefusedRunLeavesAll}
use Rattle.records.proofs.Cutting.{length_stored}
use Rattle.records.proofs.Plans.{passed_plan}
use Rattle.records.proofs.Claim.{every_mode_reads_back}

-- the plan is that of the bank's own header
pub same_plan : {layout : Bank1Layout} (numbers : LuminaireNumbers) (which : Option ℕ) (old : List ℕ) → layout ≡ from_header old
    → record { layout = layout; numbers = numbers; text_field = which } ≡ plan_for numbers which old
same_plan numbers which old e = ap (λ (l : Bank1Layout). record { layout = l; numbers = numbers; text_field = which }) e

module _ (mode : ChunkMode) (numbers : LuminaireNumbers) (which : Option ℕ) (text old : List ℕ) where
  abbrev checks : Option Refusal
  checks = first_of (run_checks mode numbers which text old)

  -- what the start of the read-out tells
  abbrev first_checks : List Check
  first_checks = invalid (fresh 1 (length old) mode) ∷ []

  pub start_refused : {s : (Result ReadOut Refusal)} {r : Refusal} → s ≡ starting 1 (length old) mode → s ≡ Err r → checks ≡ Some r
  unfolding run_checks
  start_refused e t = refused_first first_checks _ (was_refused first_checks (fresh 1 (length old) mode) (sym e ∙ t))

  pub record Started (out : ReadOut) : Type 0 where
    pub is : out ≡ fresh 1 (length old) mode
    pub then_plan : checks ≡ first_of (plan_checks (plan_for numbers which old) text)

  pub start_accepted : {s : (Result ReadOut Refusal)} {out : ReadOut} → s ≡ starting 1 (length old) mode → s ≡ Ok out → Started out
  unfolding run_checks
  start_accepted e t =
      let told = was_answered first_checks (fresh 1 (length old) mode) (sym e ∙ t) in
      record { is = told.1; then_plan = passed_first first_checks _ told.0 }

  module _ (k : ℕ) (buffer : List ℕ) (calls : List Call) (answers : List Answer) where
    -- what a run answers, and what it leaves in the bank, the buffer and the answers
    abbrev Ran : Result ReadOut Refusal → List ℕ → List ℕ → List Answer → Type 0
    Ran r bank' buffer' answers' =
        (r ≡ read_back mode numbers which text old k buffer calls)
        × ((bank' ≡ bank_behind mode numbers which text old k)
        × ((buffer' ≡ buffer_behind mode numbers which text old k buffer calls)
        × (answers' ≡ answers_behind mode numbers which text old k buffer calls answers)))

    pub run_refused : {r : Refusal} → checks ≡ Some r → Ran (Err r) old buffer answers
    run_refused e = (rw e, (rw e, (rw e, rw e)))

    -- by the plan, which then has made no store
    pub plan_refuses : {out : ReadOut} {p : Plan} {bank' : List ℕ} {e : Result (Unit {0}) Refusal} {r : Refusal} → Started out → p ≡ plan_for numbers which old
        → e ≡ tested (plan_checks p text) → bank' ≡ checked (plan_checks p text) (λ _. old) (cut_bank (stores_of p text) k old) → e ≡ Err r
        → Ran (Err r) bank' buffer answers
    plan_refuses {out} {p} s q a b t =
        let refused = told_err (plan_checks p text) (sym a ∙ t) in
        let all = run_refused (s.then_plan ∙ ap (λ (p : Plan). first_of (plan_checks p text)) (sym q) ∙ refused) in
        (all.0, (b ∙ (rw refused) ∙ all.1.0, all.1.1))

    pub run_accepted : {out last : ReadOut} {p : Plan} {bank' buffer' : List ℕ} {answers' : List Answer} {e : Result (Unit {0}) Refusal} {u : Unit {0}} → Started out → p ≡ plan_for numbers which old
        → e ≡ tested (plan_checks p text) → bank' ≡ checked (plan_checks p text) (λ _. old) (cut_bank (stores_of p text) k old) → e ≡ Ok u
        → last ≡ (after (rule_of out) (state_of out buffer) calls).out → buffer' ≡ (after (rule_of out) (state_of out buffer) calls).buffer
        → answers' ≡ laid_into (answers_of (rule_of out) (state_of out buffer) calls) answers
        → Ran (Ok last) bank' buffer' answers'
    run_accepted {out} {last} {p} s q a b t l d n =
        let sound = told_ok (plan_checks p text) (sym a ∙ t) in
        let all = s.then_plan ∙ ap (λ (p : Plan). first_of (plan_checks p text)) (sym q) ∙ sound in
        let cut = cut_of numbers which text old k in
        let same : out ≡ fresh 1 (length cut) mode =
        s.is ∙ ap (λ (n : ℕ). fresh 1 n mode) (sym (length_stored (take k (stores_of (plan_for numbers which old) text)) old)) in (
          ap Ok (l ∙ ap (λ (r : ReadOut). (after (rule_of r) (state_of r buffer) calls).out) same) ∙ sym (rw all),
          (
            b ∙ (rw sound) ∙ ap (λ (p : Plan). cut_bank (stores_of p text) k old) q ∙ sym (rw all),
            (d ∙ ap (λ (r : ReadOut). (after (rule_of r) (state_of r buffer) calls).buffer) same ∙ sym (rw all), n ∙ ap (λ (r : ReadOut). laid_into (answers_of (rule_of r) (state_of r buffer) calls) answers) same ∙ sym (rw all)),
          ),
        )

-- ---- the claim

answers_count : (chunk : ChunkRule) (s : State) (calls : List Call) → length (answers_of chunk s calls) ≡ length calls
answers_count chunk s [] = refl
answers_count chunk s (c ∷ cs) = ap suc (answers_count chunk (step chunk s c) cs)

-- what a list of calls lays into a slice for its answers
module _ (chunk : ChunkRule) (s : State) (calls : List Call) where
  abbrev given : List Answer
  given = answers_of chunk s calls

  answer_laid : (answers : List Answer) (i : ℕ) → i < length calls → i < length answers → slice_get (laid_into given answers) i ≡ slice_get given i
  answer_laid answers i h room = laid_at given answers i (omega (arith, answers_count chunk s calls)) room

  none_laid : (answers : List Answer) (i : ℕ) → length calls ≤ i → slice_get (laid_into given answers) i ≡ slice_get answers i
  none_laid answers i h = laid_behind given answers i (omega (arith, answers_count chunk s calls))

pub every_run_reads_back : EveryRunReadsBack
unfolding first_of run_checks
every_run_reads_back mode numbers which text old k buffer calls is_old accepted held =
    let start = begin mode (cut_of numbers which text old k) buffer in
    record {
      runs = rw sound;
      leaves_cut = rw sound;
      leaves_buffer = rw sound;
      lays_answers = λ answers before c behind is room.
          (rw sound)
          ∙ answer_laid (chunk_in mode) start calls answers (length before) (omega (arith, ap length is, length-append before (c ∷ behind))) room
          ∙ (claimed.each_call before c behind is).answers_so;
      leaves_answers = λ answers i far. (rw sound) ∙ none_laid (chunk_in mode) start calls answers i far;
      claim = claimed;
    }
  where
    claimed : CutReadsBack mode old (plan_for numbers which old) text k (cut_of numbers which text old k) buffer calls
    claimed = every_mode_reads_back mode old (plan_for numbers which old) text k (cut_of numbers which text old k) buffer calls is_old accepted refl held

    sound : first_of (run_checks mode numbers which text old) ≡ None
    sound =
        rw (le-ltb 256 (length old) is_old.few, le-ltb (length old) 0 (omega arith))
        (passed_plan (plan_for numbers which old) text accepted.offsets accepted.values accepted.accepts)

pub every_refused_run_leaves_all : EveryRefusedRunLeavesAll
every_refused_run_leaves_all mode numbers which text old k buffer calls answers r e = go (first_of (run_checks mode numbers which text old)) refl
  where
    go : (o : Option Refusal) → first_of (run_checks mode numbers which text old) ≡ o → RunLeavesAll mode numbers which text old k buffer calls answers
    go None f = not_both (rw f at e)
    go (Some x) f = record { bank = rw f; buffer_stays = rw f; answers_stay = rw f }
