-- `records::fixed_list::FixedList::fill_up` meets its contract.
-- Assumes nothing.
use Rattle.std.proofs.Common.{◌≡◌, ◌++◌, ◌+◌, ◌-◌, sym, ap, ◌∙◌, arith, take, length, ℕ, length-take-le}
use Rattle.std.proofs.Math.Seq.{take-append-add}
use Rattle.std.proofs.lemmas.List.{take_min}
use Rattle.records.proofs.fixed_list.FixedList.fill_up.Goals as goal

pub returns : goal.returns
returns g c =
    let old = c.args.self.now in
    let new = c.args.items.now in
    let n = g.row.N in
    let len : length old ≡ c.self.inside.len = ap length (sym c.self.view_is) ∙ length-take-le c.self.inside.len c.self.inside.items c.self.invariant in
    let full : length old + (n - length old) ≡ n = omega (arith, len, c.self.invariant, c.self.told) in
    let rest : take c.min-n.result new ≡ take (n - length old) new = rw (c.min-n.ensures, len) (take_min (n - c.self.inside.len) new) in
    c.extend.ensures ∙ ap (λ r. old ++ r) rest ∙ sym (take-append-add old new (n - length old)) ∙ ap (λ (k : ℕ). take k (old ++ new)) full
