-- `bank::call_list::make_call` meets its contract: what accepting hands on has the bank, the length and the mode of the
-- read-out before.
-- Assumes nothing.
use Rattle.std.proofs.Common.{◌≡◌, sym, ◌∙◌}
use Rattle.std.specs.Prelude.{Ok}
use Rattle.bank.specs.ReadOut.{accepting, rule_of}
use Rattle.bank.proofs.Reading.{handed_on}
use Rattle.bank.proofs.call_list.make_call.Goals as goal

pub returns-in-Ok-clause-next : goal.returns-in-Ok-clause-next
returns-in-Ok-clause-next c =
    let a = c.args in
    let out = a.out in
    let told : accepting (rule_of out) out c.in-Accepting.budget c.in-Accepting.chunk.now a.buffer.now ≡ Ok c.in-Ok.handed = sym c.accepting-handed.ensures.answer ∙ c.in-Ok.is in
    rw (c.in-Accepting.is, told, handed_on (rule_of out) out c.in-Accepting.budget c.in-Accepting.chunk.now a.buffer.now told)
