-- `streams::write_full` has written the first bytes of the slice.
use Rattle.std.specs.Prelude.{◌≤◌, length, take}
use Rattle.std.specs.Io.KnownBytes.{Appends}
use Rattle.streams.proofs.write_full.Given as goal

abbrev pub invariant-loop : goal.invariant-loop
invariant-loop g l = (l.n ≤ length l.text) × Appends (g.W.Write.contents l.initial.output) (g.W.Write.contents l.output) (take l.n l.text)
