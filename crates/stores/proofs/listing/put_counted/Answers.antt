-- `stores::listing::put_counted` meets its contract: word, number and line feed, one behind the other.
-- Assumes nothing.
use Rattle.std.specs.Prelude.{◌≡◌, List, [], ◌∷◌, ℕ, ◌++◌, length}
use mathlib.Core.Path.{ap, ◌∙◌}
use mathlib.Core.List.{append_assoc}
use native.Mathlib.Omega.{arith}
use lib.ListN.{length-append}
use Rattle.stores.specs.Listing.{decimal}
use Rattle.stores.proofs.Lines.{joined, decimal_short}
use Rattle.stores.proofs.listing.put_counted.Goals as goal

pub put_decimal-requires : goal.put_decimal-requires
put_decimal-requires c =
    let a = c.args in
    let put = joined a.text.now a.word.now c.fill_up.ensures (omega (arith, c.requires)) in
    (c.requires.0, omega (arith, ap length put, length-append a.text.now a.word.now, c.requires))

pub returns : goal.returns
returns c =
    let a = c.args in
    let put = joined a.text.now a.word.now c.fill_up.ensures (omega (arith, c.requires)) in
    let both : c.put_decimal.new.text ≡ (a.text.now ++ a.word.now) ++ decimal a.n = c.put_decimal.ensures ∙ ap (λ (l : List ℕ). l ++ decimal a.n) put in
    joined c.put_decimal.new.text (0x0A ∷ []) c.fill_up-2.ensures
    (omega (arith, ap length both, length-append (a.text.now ++ a.word.now) (decimal a.n), length-append a.text.now a.word.now, decimal_short a.n, c.requires))
    ∙ ap (λ (l : List ℕ). l ++ 0x0A ∷ []) both
    ∙ append_assoc (a.text.now ++ a.word.now) (decimal a.n) (0x0A ∷ [])
    ∙ append_assoc a.text.now a.word.now (decimal a.n ++ 0x0A ∷ [])
