-- Laws of a header: its first byte, and its content format id.
-- Assumes nothing.
use Rattle.std.specs.Prelude.{None, Some}
use mathlib.Core.Path.{◌≡◌}
use mathlib.Core.List.{List}
use Prim.Native.Nat.{ℕ, ◌≤◌, ◌<◌}
use borrow.Author.Tests.{le-leb, lt-leb}
use lib.ListN.{length, take, drop}
use Rattle.bus.specs.Number.{number}
use Rattle.bank.specs.Fields.{id_in}

pub no_id : (h : List ℕ) → length h < 19 → id_in h ≡ None
unfolding id_in
no_id h l = rw (lt-leb 19 (length h) l)

pub id : (h : List ℕ) → 19 ≤ length h → id_in h ≡ Some (number (take 2 (drop 17 h)))
unfolding id_in
id h l = rw (le-leb 19 (length h) l)
