-- `bank::luminaire_write::id_in` meets its contract: its two bytes make the id.
-- Assumes nothing.
use Rattle.std.proofs.Common.{sym, ap, ◌∙◌, ℕ, List, take, Some, arith}
use Rattle.bus.proofs.Number.{number_part}
use Rattle.bus.specs.Number.{number}
use Rattle.bank.proofs.Header.{no_id, id}
use Rattle.bank.proofs.luminaire_write.id_in.Goals as goal

pub returns-in_err-id : goal.returns-in_err-id
returns-in_err-id c = c.from_residual.ensures ∙ sym (no_id c.args.header.now (omega (arith, c.in_err-id.ensures.lookup)))

pub returns : goal.returns
returns c =
    let h = c.args.header.now in
    ap Some (c.number_of.ensures.value ∙ ap (λ (l : List ℕ). number (take 8 l)) c.in_ok-id.ensures.lookup.0.2 ∙ number_part h 17 2 (omega arith))
    ∙ sym (id h (omega (arith, c.in_ok-id.ensures.lookup.0.1)))
