-- `bank::read_out::copy_in` meets its contract, by its invariant.
-- Assumes nothing.
use Rattle.std.proofs.Common.{sym, ap, ◌∙◌, List, ℕ, ◌+◌, arith, set}
use native.Mathlib.Numerals.{add-one}
use lib.ListN.{get_or, length-set}
use lib.Seq.{paste, paste-suc}
use Rattle.bank.proofs.Reading.{paste_all}
use Rattle.bank.proofs.read_out.copy_in.Goals as goal

pub loop-i-preserved : goal.loop-i-preserved
loop-i-preserved c =
    let a = c.args in
    let d = a.buffer.now in
    let s = a.chunk.now in
    let i = c.loop-i.i in (
      ap (λ (r : List ℕ). set r (a.at + i) (get_or s i 0)) c.loop-i.invariant.0
          ∙ paste-suc d a.at s i 0 (omega arith) (omega arith)
          ∙ ap (paste d a.at s) (sym (add-one i)),
      simp length-set c.loop-i.invariant.1,
    )

pub returns : goal.returns
returns c =
    let a = c.args in
    c.loop-i.invariant.0 ∙ paste_all a.buffer.now a.at a.chunk.now c.loop-i.i (omega arith)
