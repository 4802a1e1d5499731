-- `records::luminaire_write::FieldWrite::held_by` meets its contract: there is no such field, the bank or the bytes end
-- before the write does, or they are compared.
-- Assumes nothing.
use Rattle.std.proofs.Common.{sym, ◌∙◌, arith}
use Rattle.records.proofs.Held.{held_nowhere, held_past, held_unknown, held_same}
use Rattle.records.proofs.luminaire_write.FieldWrite.held_by.Goals as goal

pub returns-in_default : goal.returns-in_default
returns-in_default c =
    let a = c.args in
    sym (held_nowhere a.self a.bytes.now a.bank.now (sym c.of_index.ensures ∙ c.in_default.is))

pub returns-in_default-get : goal.returns-in_default-get
returns-in_default-get c =
    let a = c.args in
    sym (held_past a.self a.bytes.now a.bank.now (sym c.of_index.ensures ∙ c.in-Some.is) (omega (arith, c.in_default-get.ensures.lookup)))

pub returns-in_default-get-2 : goal.returns-in_default-get-2
returns-in_default-get-2 c =
    let a = c.args in
    sym (held_unknown a.self a.bytes.now a.bank.now (sym c.of_index.ensures ∙ c.in-Some.is) (omega (arith, c.in-Some-get.ensures.lookup.0)) (omega (arith, c.in_default-get-2.ensures.lookup)))

pub returns : goal.returns
returns c =
    let a = c.args in
    let held = c.in-Some-get.ensures.lookup.0 in
    let own = c.in-Some-get-2.ensures.lookup.0 in
    c.eq.ensures ∙ rw (held.2, own.2) (sym (held_same a.self a.bytes.now a.bank.now (sym c.of_index.ensures ∙ c.in-Some.is) (omega arith) (omega arith)))
