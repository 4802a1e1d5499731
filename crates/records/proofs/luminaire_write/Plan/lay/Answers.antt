-- `records::luminaire_write::Plan::lay` meets its contract, by its invariant.
-- Assumes nothing.
use Rattle.std.proofs.Common.{◌≡◌, refl, sym, ap, ◌∙◌, length, arith}
use Rattle.records.specs.Plan.{stores_of}
use Rattle.records.proofs.Room.{front, next_count, own_room, own_laid, same_front, all_front, front_is}
use Rattle.records.proofs.luminaire_write.Plan.lay.Goals as goal
use Rattle.records.proofs.luminaire_write.Plan.lay.Goals.{In-Some}

-- the stores of the fields before the next row are laid
before : (c : In-Some) → (let p = c.args.self in let text = c.args.text.now in
    front p.numbers p.text_field text c.in-Some.row.index ≡ front p.numbers p.text_field text c.loop-row.from)
before c =
    let p = c.args.self in
    let next = c.in-Some.ensures.some in
    same_front p.numbers p.text_field c.wanted_places-places.result c.wanted_places-places.ensures.places next.2 next.0 c.args.text.now

pub lay_field-laid-requires : goal.lay_field-laid-requires
lay_field-laid-requires c =
    let p = c.args.self in
    let row = c.in-Some.row in
    let room = own_room p.numbers p.text_field c.args.text.now row.index row.in_table in
    let laid = c.loop-row.invariant.counted ∙ ap length (sym (before (goal.at.lay_field-laid-requires c).In-Some)) in
    omega (arith, room, laid, c.requires, c.loop-row.auto.stores)

pub loop-row-preserved : goal.loop-row-preserved
loop-row-preserved c =
    let p = c.args.self in
    let text = c.args.text.now in
    let s = c.loop-row.invariant in
    let row = c.in-Some.row in
    let e = c.lay_field-laid.ensures in
    let same = before (goal.at.loop-row-preserved c).In-Some in
    record {
      within = omega (arith, c.in-Some.ensures.some.1);
      counted = e.behind ∙ rw (s.counted, ← same) (sym (next_count p.numbers p.text_field text row.index row.in_table));
      stores = e.laid ∙ rw (s.stores, s.counted, ← same) (own_laid p.numbers p.text_field text row.index row.in_table c.args.stores.now);
    }

pub returns : goal.returns
returns c =
    let p = c.args.self in
    let text = c.args.text.now in
    let s = c.loop-row.invariant in
    let places = c.wanted_places-places in
    let all = sym (all_front p.numbers p.text_field text) ∙ same_front p.numbers p.text_field places.result places.ensures.places (c.in_default.ensures.none refl) s.within text in
    rw (s.stores, ← all) (front_is (stores_of p text) c.args.stores.now refl c.requires)
