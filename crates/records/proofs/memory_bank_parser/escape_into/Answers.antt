-- `records::memory_bank_parser::escape_into` meets its contract, by its invariant.
-- Assumes nothing.
use mathlib.Core.Path.{ap, ◌∙◌}
use Prim.Native.Nat.{ℕ}
use native.Mathlib.Omega.{arith}
use lib.ListN.{length, length-take, length-drop}
use Rattle.bus.specs.Value.{laid_into}
use Rattle.records.specs.Text.{escaped, copied_whole}
use Rattle.records.proofs.Texts.{within, laid_on, all_laid, nothing_left}
use Rattle.records.proofs.memory_bank_parser.escape_into.Goals as goal

pub slice_bounds-rest-count : goal.slice_bounds-rest-count
slice_bounds-rest-count c = (within c.loop-pushed.invariant c.push_next.ensures.answer c.push_next.ensures.stored c.in-Some.is).1

pub slice_bounds-rest-start : goal.slice_bounds-rest-start
slice_bounds-rest-start c = (within c.loop-pushed.invariant c.push_next.ensures.answer c.push_next.ensures.stored c.in-Some.is).1

pub loop-pushed-smaller : goal.loop-pushed-smaller
loop-pushed-smaller c = let w = within c.loop-pushed.invariant c.push_next.ensures.answer c.push_next.ensures.stored c.in-Some.is in rw (length-take, length-drop) (omega (arith, w))

pub loop-pushed-preserved : goal.loop-pushed-preserved
loop-pushed-preserved c = laid_on c.loop-pushed.invariant c.push_next.ensures.answer c.push_next.ensures.stored c.in-Some.is

pub returns : goal.returns
returns c =
    let all = all_laid c.loop-pushed.invariant c.push_next.ensures.answer c.push_next.ensures.stored c.in_default.is in
    let left = nothing_left c.loop-pushed.invariant c.push_next.ensures.answer c.push_next.ensures.stored c.in_default.is in
    let raw = c.args.raw.now in
    let out = c.args.out.now in
    record {
      count = all.0 ∙ ap (λ (n : ℕ). length (escaped n raw)) c.min-room.ensures;
      whole = c.is_empty.ensures ∙ left ∙ ap (λ (n : ℕ). copied_whole n raw) c.min-room.ensures;
      stored = all.1 ∙ ap (λ (n : ℕ). laid_into (escaped n raw) out) c.min-room.ensures;
    }
