-- `records::utf8::followed` meets its contract.
-- Assumes nothing.
use mathlib.Core.Path.{◌≡◌, sym, ap, ◌∙◌}
use mathlib.Core.Bool.{Bool, ◌&&◌}
use mathlib.Core.List.{◌∷◌}
use Prim.Native.Nat.{suc, ◌-◌, ◌<◌}
use native.Mathlib.Omega.{arith}
use borrow.Author.Tests.{tests}
use lib.ListN.{length, drop, replicate, length-drop, length-replicate}
use Rattle.std.specs.Bool.{then_some}
use Rattle.std.specs.List.{list_all}
use Rattle.std.proofs.Common.{rules}
use Rattle.std.proofs.lemmas.Iterator.{YieldsList-from_slice}
use Rattle.std.proofs.lemmas.Iterator.Search.{all_from_yields_List}
use Rattle.records.specs.Utf8.{to, tail, within}
use Rattle.records.proofs.Sequences.{follow_first, too_few}
use Rattle.records.proofs.utf8.followed.Goals as goal
use Rattle.records.proofs.utf8.followed.Goals.{then-contains, else-contains}

pub returns-in_err-get : goal.returns-in_err-get
returns-in_err-get c =
    let a = c.args in
    let few : length (drop 1 a.bytes.now) < suc (length (replicate (a.len - 2) tail)) = rw (length-drop, length-replicate) (omega (arith, c.in_err-get.ensures.lookup)) in
    rw (too_few (to a.low a.high ∷ replicate (a.len - 2) tail) (drop 1 a.bytes.now) few) c.from_residual.ensures

pub returns : goal.returns
returns c =
    let a = c.args in
    let second = to a.low a.high in
    let b = c.in_ok-second.second.now in
    let further = c.in_ok-second.further.now in
    let part = sym c.in_ok-get.ensures.lookup.0.2 ∙ c.in_ok-second.ensures.cases.0 in
    let n : a.len - 2 ≡ length further = omega (arith, c.in_ok-get.ensures.lookup, c.in_ok-second.ensures.cases) in
    let is_within : c.contains.result ≡ within second b = search (rules, tests) in
    let all : c.if-contains.is_followed ≡ within second b && list_all (within tail) further =
    rw (sym is_within)
    (elim c.if-contains.branch [
      | then-contains w ↦ rw w.if-contains.true (w.is_followed-is ∙ all_from_yields_List (within tail) _ _ _ w.all-is_followed.ensures.ran (YieldsList-from_slice further cc) (λ x b q k. search (rules, tests)))
      | else-contains w ↦ rw w.if-contains.false (w.is_followed-is ∙ w.if-contains.false)
    ])
    in
    c.then_some.ensures ∙ rw n (ap (λ (t : Bool). then_some t a.len) (all ∙ sym (follow_first (drop 1 a.bytes.now) (a.len - 1) second part)))
