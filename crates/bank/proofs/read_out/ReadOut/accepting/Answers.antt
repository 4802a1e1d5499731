-- `bank::read_out::ReadOut::accepting` meets its contract: a refusal leaves the buffer, and an accepted chunk is laid in at
-- the next offset.
-- Assumes nothing.
use Rattle.std.proofs.Common.{◌≡◌, sym, ap, ◌∙◌, ℕ, ◌+◌, ◌-◌, ◌≤◌, length, None, Ok, arith}
use Rattle.std.proofs.lemmas.Result.{err_from_is_err_and}
use Rattle.bank.specs.Refusal.{first_of}
use Rattle.bank.specs.ReadOut.{rule_of, advanced, want_checks, wanted_len, Acceptable}
use Rattle.bank.proofs.Modes.{every_mode_bounded}
use Rattle.bank.proofs.Checks.{told_err, told_ok}
use Rattle.bank.proofs.Reading.{valid, refuses_want, refuses_buffer, refuses_chunk, refused, every_chunk_taken_exactly}
use Rattle.bank.proofs.read_out.ReadOut.accepting.Goals as goal
use Rattle.bank.proofs.read_out.ReadOut.accepting.Goals.{Else-chunk-wanted, In_ok-check}

-- the read-out and the budget are not refused
sound : (c : In_ok-check) → (let a = c.args in first_of (want_checks a.self a.budget) ≡ None)
sound c = told_ok _ (sym c.check.ensures ∙ c.in_ok-check.was)

-- the chunk has the length that is wanted, and ends within the read-out
wanted : (c : Else-chunk-wanted) → (let a = c.args in length a.chunk.now ≡ wanted_len (rule_of a.self) a.self a.budget)
wanted c = c.if-chunk-wanted.false ∙ c.chunk_len-wanted.ensures

ends : (c : Else-chunk-wanted) → (let a = c.args in first_of (want_checks a.self a.budget) ≡ None → a.self.next + length a.chunk.now ≤ a.self.length)
ends c passed =
    let a = c.args in
    let r = a.self in
    omega (arith, wanted c, valid r a.budget passed, (every_mode_bounded r.mode).within r.bank r.next (r.length - r.next) a.budget)

pub returns-in_err-check : goal.returns-in_err-check
returns-in_err-check c =
    let a = c.args in
    let p = err_from_is_err_and c.from_residual.result c.from_residual.ensures.1 in
    let both = refused (rule_of a.self) a.self a.budget a.chunk.now a.buffer.now
    (refuses_want (rule_of a.self) a.self a.budget a.chunk.now a.buffer.now (told_err _ (sym c.check.ensures ∙ c.in_err-check.was))) in
    record { answer = rw (p.1, p.2) both.0; stored = both.1 }

pub returns-then-buffer-self : goal.returns-then-buffer-self
returns-then-buffer-self c =
    let a = c.args in
    let both = refused (rule_of a.self) a.self a.budget a.chunk.now a.buffer.now
    (refuses_buffer (rule_of a.self) a.self a.budget a.chunk.now a.buffer.now (sound (goal.at.returns-then-buffer-self c).In_ok-check) c.if-buffer-self.true) in
    record { answer = both.0; stored = both.1 }

pub overflow_sub-left : goal.overflow_sub-left
overflow_sub-left c =
    let a = c.args in
    (valid a.self a.budget (sound (goal.at.overflow_sub-left c).In_ok-check)).ahead

pub returns-then-chunk-wanted : goal.returns-then-chunk-wanted
returns-then-chunk-wanted c =
    let a = c.args in
    let both = refused (rule_of a.self) a.self a.budget a.chunk.now a.buffer.now
    (refuses_chunk (rule_of a.self) a.self a.budget a.chunk.now a.buffer.now (sound (goal.at.returns-then-chunk-wanted c).In_ok-check) c.if-buffer-self.false
    (λ e. c.if-chunk-wanted.true (e ∙ sym c.chunk_len-wanted.ensures))) in
    record { answer = both.0; stored = both.1 }

pub overflow_add-end : goal.overflow_add-end
overflow_add-end c =
    let a = c.args in
    let passed = sound (goal.at.overflow_add-end c).In_ok-check in
    omega (arith, ends (goal.at.overflow_add-end c).Else-chunk-wanted passed, c.if-chunk-wanted.false, valid a.self a.budget passed)

pub copy_in-requires : goal.copy_in-requires
copy_in-requires c =
    let passed = sound (goal.at.copy_in-requires c).In_ok-check in
    omega (arith, ends (goal.at.copy_in-requires c).Else-chunk-wanted passed, c.if-buffer-self.false)

pub returns : goal.returns
returns c =
    let a = c.args in
    let exactly = every_chunk_taken_exactly (rule_of a.self) a.self a.budget a.chunk.now a.buffer.now in
    let ok : Acceptable (rule_of a.self) a.self a.budget a.chunk.now a.buffer.now =
    record { valid = valid a.self a.budget (sound (goal.at.returns c).In_ok-check); room = c.if-buffer-self.false; exact = wanted (goal.at.returns c).Else-chunk-wanted } in
    record {
      answer = ap (λ (n : ℕ). Ok (advanced a.self n)) (sym c.if-chunk-wanted.false) ∙ sym (exactly.accepted ok);
      stored = c.copy_in.ensures ∙ sym (exactly.stored ok);
    }
