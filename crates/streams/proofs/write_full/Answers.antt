-- `streams::write_full` meets its contract: what a write takes comes behind what is written.
-- Assumes nothing.
use Rattle.std.proofs.Common.{arith}
use Rattle.std.proofs.KnownBytes.{Appends-kept}
use Rattle.streams.proofs.Bytes.{appended}
use Rattle.streams.proofs.write_full.Goals as goal
use Rattle.streams.proofs.write_full.Goals.{in-Ok, in-Err}

pub loop-preserved : goal.loop-preserved
loop-preserved g c =
    let before = c.loop.invariant in
    elim c.match-write.branch [
      | in-Ok w ↦ (
        omega (arith, w.n-is, before.0, w.in-Ok.ensures.bound),
        rw w.n-is (appended _ _ _ c.args.text.now c.loop.n _ before.1 w.in-Ok.ensures.bytes),
      )
      | in-Err w ↦ (
        omega (arith, w.n-is, before.0),
        rw w.n-is (Appends-kept _ _ _ _ before.1 w.in-Err.ensures.bytes),
      )
    ]
