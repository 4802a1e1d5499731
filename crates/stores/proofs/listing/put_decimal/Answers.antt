-- `stores::listing::put_decimal` meets its contract: there is room for three digits.
-- Assumes nothing.
use Rattle.std.specs.Prelude.{◌≡◌, List, [], ◌∷◌, ℕ, ◌++◌}
use mathlib.Core.Path.{ap, ◌∙◌}
use native.Mathlib.Omega.{arith}
use borrow.Author.Tests.{tests}
use Rattle.std.proofs.Common.{rules}
use Rattle.stores.specs.Listing.{decimal}
use Rattle.stores.proofs.Lines.{joined}
use Rattle.stores.proofs.listing.put_decimal.Goals as goal

pub returns-then-n-lt10 : goal.returns-then-n-lt10
returns-then-n-lt10 c =
    let text = c.args.text.now in
    let all : c.decimal_digit.result ∷ [] ≡ decimal c.args.n = search (rules, tests) in
    joined text _ c.fill_up.ensures (omega (arith, c.requires)) ∙ ap (λ (r : List ℕ). text ++ r) all

pub returns-then-n-lt100 : goal.returns-then-n-lt100
returns-then-n-lt100 c =
    let text = c.args.text.now in
    let all : c.decimal_digit-then-n-lt100.result ∷ c.decimal_digit-then-n-lt100-2.result ∷ [] ≡ decimal c.args.n = search (rules, tests) in
    joined text _ c.fill_up-then-n-lt100.ensures (omega (arith, c.requires)) ∙ ap (λ (r : List ℕ). text ++ r) all

pub returns-else-n-lt100 : goal.returns-else-n-lt100
returns-else-n-lt100 c =
    let text = c.args.text.now in
    let all : c.decimal_digit-else-n-lt100.result ∷ c.decimal_digit-else-n-lt100-2.result ∷ c.decimal_digit-else-n-lt100-3.result ∷ [] ≡ decimal c.args.n = search (rules, tests) in
    joined text _ c.fill_up-else-n-lt100.ensures (omega (arith, c.requires)) ∙ ap (λ (r : List ℕ). text ++ r) all
