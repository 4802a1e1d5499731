-- Laws of calls that are lent in a slice and made one by one: what is left behind a call, and what is stored.
-- Assumes nothing.
use mathlib.Core.Path.{◌≡◌, refl, ap, ◌∙◌}
use mathlib.Core.List.{List, [], ◌∷◌, map}
use Prim.Native.Nat.{ℕ, ◌+◌}
use lib.ListN.{set}
use native.Mathlib.Numerals.{add-one}
use native.Mathlib.Omega.{arith}
use lib.Seq.{sets}
use Rattle.bus.specs.Value.{laid_into}
use Rattle.bus.proofs.Lists.{sets_laid}
use Rattle.bank.specs.declared.call_list.Answer.{Answer}
use Rattle.bank.specs.declared.call_list.Call.{Call as LentCall}
use Rattle.bank.specs.declared.call_list.Call as lent
use Rattle.bank.specs.declared.read_out.ReadOut.{ReadOut}
use Rattle.bank.specs.Chunk.{ChunkRule, chunk_in}
use Rattle.bank.specs.ReadOut.{rule_of}
use Rattle.bank.proofs.Calls.{mode_stays}
use Rattle.bank.specs.Calls.{Call, want, accept, State, state_of, answer, step, after, answers_of, EveryAnswerHandedOn, call_of, calls_in, Layable, AllHaveBits, Lends, LendsAll, EveryListLaid}

-- a call as it is lent
abbrev lent_call : Call → LentCall
lent_call (want budget) = lent.TheVariants.Wanting budget
lent_call (accept budget bytes) = lent.TheVariants.Accepting budget (record { ref_ptr = (0, 0); now = bytes })

-- a lent call is read as the one that it is, and so are lent calls
read_call : (l : LentCall) (c : Call) → Lends l c → call_of l ≡ c
read_call (lent.TheVariants.Wanting budget) (want b) e = ap want e
read_call (lent.TheVariants.Wanting budget) (accept b bytes) e = absurd e
read_call (lent.TheVariants.Accepting budget chunk) (want b) e = absurd e
read_call (lent.TheVariants.Accepting budget chunk) (accept b bytes) e = ap (λ (n : ℕ). accept n chunk.now) e.0 ∙ ap (accept b) e.1

read_calls : (calls : List Call) (ls : List LentCall) → LendsAll ls calls → calls_in ls ≡ calls
read_calls [] [] e = refl
read_calls [] (l ∷ ls) e = absurd e
read_calls (c ∷ cs) [] e = absurd e
read_calls (c ∷ cs) (l ∷ ls) e = ap (λ (x : Call). x ∷ calls_in ls) (read_call l c e.0) ∙ ap (λ (rest : List Call). c ∷ rest) (read_calls cs ls e.1)

fitting : (calls : List Call) → Layable calls → AllHaveBits (map lent_call calls)
fitting [] l = tt
fitting (want budget ∷ cs) l = (omega (arith, l.0), fitting cs l.1)
fitting (accept budget bytes ∷ cs) l = (omega (arith, l.0), fitting cs l.1)

lending : (calls : List Call) → LendsAll (map lent_call calls) calls
lending [] = tt
lending (want budget ∷ cs) = (refl, lending cs)
lending (accept budget bytes ∷ cs) = ((refl, refl), lending cs)

pub every_list_laid : EveryListLaid
every_list_laid calls layable =
    record {
      lent = map lent_call calls;
      fits = fitting calls layable;
      lends = lending calls;
      made = read_calls calls (map lent_call calls) (lending calls);
      always = read_calls calls;
    }

-- ---- a run of calls

-- a call hands back the read-out of the next state
pub handed_on : EveryAnswerHandedOn
handed_on chunk s (want budget) = refl
handed_on chunk s (accept budget bytes) = refl

-- with the calls that are left, the run ends as it does with all, and stores the same answers
pub record Ran (start : State) (all : List Call) (answers₀ : List Answer) (s : State) (answers : List Answer) (count : ℕ) (left : List Call) : Type 0 where
  pub same : s.out.mode ≡ start.out.mode
  pub ends : after (rule_of start.out) s left ≡ after (rule_of start.out) start all
  pub stores : sets answers count (answers_of (rule_of start.out) s left) ≡ sets answers₀ 0 (answers_of (rule_of start.out) start all)

module _ {start : State} {all : List Call} {answers₀ : List Answer} {s : State} {answers : List Answer} {count : ℕ} {left : List Call} where
  -- the call that is made next
  module _ {c : Call} {cs : List Call} {out : ReadOut} {buffer : List ℕ} {answers' : List Answer} where
    pub call_made : Ran start all answers₀ s answers count left → left ≡ c ∷ cs → out ≡ (step (rule_of s.out) s c).out
        → buffer ≡ (step (rule_of s.out) s c).buffer → answers' ≡ set answers count (answer (rule_of s.out) s c) → Ran start all answers₀ (state_of out buffer) answers' (count + 1) cs
    call_made r l o b a =
        let rule : rule_of s.out ≡ rule_of start.out = ap chunk_in r.same in
        let next : state_of out buffer ≡ step (rule_of s.out) s c = ap (λ (t : ReadOut). state_of t buffer) o ∙ ap (state_of (step (rule_of s.out) s c).out) b in
        let by_rule : state_of out buffer ≡ step (rule_of start.out) s c = next ∙ ap (λ (k : ChunkRule). step k s c) rule in
        let laid : answers' ≡ set answers count (answer (rule_of start.out) s c) = a ∙ ap (λ (k : ChunkRule). set answers count (answer k s c)) rule in
        record {
          same = ap (λ (t : ReadOut). t.mode) o ∙ mode_stays (rule_of s.out) s c ∙ r.same;
          ends = ap (λ (t : State). after (rule_of start.out) t cs) by_rule ∙ (rw l at r.ends);
          stores = ap (λ (t : State). sets answers' (count + 1) (answers_of (rule_of start.out) t cs)) by_rule ∙ (rw (laid, add-one) (rw l at r.stores));
        }

  -- where no call is left, all answers are laid
  pub all_stored : Ran start all answers₀ s answers count left → left ≡ [] → answers ≡ laid_into (answers_of (rule_of start.out) start all) answers₀
  all_stored r l = rw l at r.stores ∙ sets_laid (answers_of (rule_of start.out) start all) answers₀
