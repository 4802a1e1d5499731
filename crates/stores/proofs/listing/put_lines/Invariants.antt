-- `stores::listing::put_lines` meets its contract. The invariant: with the lines of the stores that are left, the text is as
-- with all, and there is room for them.
-- Assumes nothing.
use Rattle.std.specs.Prelude.{◌≡◌, ◌+◌, ◌*◌, ◌≤◌, ◌++◌, length}
use Rattle.stores.specs.Steps.{lines}
use Rattle.stores.proofs.listing.put_lines.Given as goal

abbrev pub invariant-loop-offset : goal.invariant-loop-offset
invariant-loop-offset l =
    let left = l.offset-iterator in
    record {
      same : l.text ++ lines left.a.rest.now left.b.rest.now ≡ l.initial.text ++ lines l.offsets l.values;
      room : length l.text + 6 * length left.a.rest.now ≤ 492;
    }
