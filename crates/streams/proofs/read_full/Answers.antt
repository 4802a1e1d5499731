-- `streams::read_full` meets its contract: what a read gives stands behind what is filled.
-- Assumes nothing.
use Rattle.std.proofs.Common.{◌≡◌, ◌-◌, length, rules, arith, sym, subst}
use Rattle.std.specs.Io.KnownBytes.{Consumes}
use Rattle.std.proofs.KnownBytes.{Consumes-kept}
use borrow.Rule.Slice.PartMut.{put_mid, take_put}
use Rattle.streams.proofs.Bytes.{filled}
use Rattle.streams.proofs.read_full.Goals as goal
use Rattle.streams.proofs.read_full.Goals.{in-Ok, in-Err}

pub loop-preserved : goal.loop-preserved
loop-preserved g c =
    let n = c.loop.n in
    let block = c.loop.block in
    let part = c.read.new.buf in
    let new = put_mid n (length block - n) block part in
    let before = c.loop.invariant in
    let long : length new ≡ length block = search rules in
    let room : length part ≡ length block - n = search rules in
    elim c.match-read.branch [
      | in-Ok w ↦ (
        search rules,
        omega (arith, long, room, w.n-is, before.1, w.in-Ok.ensures.bound.0),
        rw w.n-is (filled _ _ _ block part _ n _ before.1 w.in-Ok.ensures.bound.0 before.2 w.in-Ok.ensures.bytes.0),
      )
      | in-Err w ↦ (
        search rules,
        omega (arith, long, w.n-is, before.1),
        rw w.n-is (subst (Consumes _ _) (sym (take_put n _ block part before.1)) (Consumes-kept _ _ _ _ before.2 w.in-Err.ensures.bytes)),
      )
    ]
