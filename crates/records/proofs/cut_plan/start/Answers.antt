-- `records::cut_plan::start` meets its contract: a length that is no 16-bit number is over 256.
-- Assumes nothing.
use Rattle.std.specs.Prelude.{◌≡◌, ℕ, Ok, Err, Result}
use Rattle.std.specs.Result.{OkIff, result_or}
use Rattle.std.proofs.Common.{sym, ◌∙◌, arith}
use Rattle.std.proofs.lemmas.Result.{err_from_is_err_and}
use borrow.Author.Tests.{lt-ltb}
use Rattle.bank.specs.declared.refusal.Refusal.{Refusal}
use Rattle.bank.specs.Refusal.{first_of}
use Rattle.bank.proofs.Checks.{not_both}
use Rattle.records.proofs.cut_plan.start.Goals as goal

told : {E : Type 0} (t : Result ℕ E) (P : Type 0) (v : ℕ) {d r : Refusal} → OkIff t P v → result_or {D = Refusal} t (Err d) ≡ Err r → (P → ⊥) × (d ≡ r)
told (Ok n) P v o e = not_both e
told (Err x) P v o e = (o, cc)

pub returns-in_err-len : goal.returns-in_err-len
unfolding first_of
returns-in_err-len c =
    let p = err_from_is_err_and c.from_residual.result c.from_residual.ensures.1 in
    let q = told c.try_from.result _ _ c.try_from.ensures (sym c.or.ensures ∙ c.in_err-len.was) in
    rw (p.1, p.2, sym q.1, lt-ltb 256 c.args.len (omega (arith, q.0)))
