-- `bank::layout::with_further` meets its contract, by its invariant.
-- Assumes nothing.
use Rattle.std.proofs.Common.{◌≡◌, sym, ap, ◌∙◌, ℕ, ◌+◌, ◌<◌, drop, arith}
use lib.ListN.{drop_of_length-le}
use Rattle.bus.specs.declared.ValueWidth.TheVariants.{U8}
use Rattle.bus.proofs.Lists.{left_at}
use Rattle.bank.specs.Chunk.{with_further}
use Rattle.bank.proofs.Chunk.{further_fits, further_stops, further_end}
use Rattle.bank.proofs.layout.with_further.Goals as goal
use Rattle.bank.proofs.layout.with_further.Goals.{After-bytes-bytes, then-limit-bytes-via-then-limit-bytes, then-limit-bytes-via-else-limit-bytes+then-limit-bytes-2}

pub loop-field-preserved : goal.loop-field-preserved
loop-field-preserved c =
    let a = c.args in
    let l = c.loop-field in
    let bytes = c.bytes-bytes in
    ap (λ (n : ℕ). with_further a.limit (l.taken + n) (drop (l.field-index + 1) a.fields.now)) bytes.ensures
    ∙ sym (further_fits (left_at a.fields.now l.field-index _ c.loop-field-test.true) a.limit l.taken (omega (arith, bytes.ensures, c.if-limit-bytes.false, c.if-limit-bytes-2.false)))
    ∙ l.invariant

pub returns-after-loop-field : goal.returns-after-loop-field
returns-after-loop-field c =
    let l = c.loop-field in
    sym (further_end (drop_of_length-le c.args.fields.now {i = l.field-index} c.loop-field-test.false) c.args.limit l.taken) ∙ l.invariant

-- the walk stops at a field that does not fit
stops : (c : After-bytes-bytes) → (let l = c.loop-field in c.args.limit < l.taken + c.bytes-bytes.result → l.taken ≡ with_further c.args.limit l.taken (drop l.field-index c.args.fields.now))
stops c h =
    let l = c.loop-field in
    let here = left_at c.args.fields.now l.field-index (record { offset = 0; width = U8 }) c.loop-field-test.true in
    sym (further_stops here c.args.limit l.taken (omega (arith, c.bytes-bytes.ensures)))

pub returns-then-limit-bytes : goal.returns-then-limit-bytes
returns-then-limit-bytes c =
    let l = c.loop-field in
    let at = (goal.at.returns-then-limit-bytes c).After-bytes-bytes in
    elim c.then-limit-bytes.branch [
      | then-limit-bytes-via-then-limit-bytes w ↦ stops at (omega (arith, w.if-limit-bytes.true)) ∙ l.invariant
      | then-limit-bytes-via-else-limit-bytes+then-limit-bytes-2 w ↦ stops at (omega (arith, w.if-limit-bytes-2.true, w.if-limit-bytes.false)) ∙ l.invariant
    ]
