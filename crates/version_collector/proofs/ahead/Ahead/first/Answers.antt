use Rattle.std.specs.Vec.Iter.{into_iter_items}
use Rattle.version_collector.specs.Visits.{position_of}
use Rattle.version_collector.proofs.AheadCells.{first_left, first_next, none_left, still_next}
use Rattle.version_collector.proofs.ahead.Ahead.first.Goals as goal

pub returns-clause-found : goal.returns-clause-found
returns-clause-found g c = λ held follow.
    let cells = g.R.Rows.seen.cells c.args.rows.now in
    let after = position_of c.args.after.now in
    let it = c.fill.new.self.places in
    let places = into_iter_items it in
    still_next cells after c.cell_at.result c.next.result c.cell_at.ensures
    (first_next cells after places (into_iter_items c.next.new.self) c.fill.new.self.is_end c.next.result c.next.ensures.items
    (none_left c.next.result places it.rest.len it.rest.ok.0 c.next.ensures.variant.1) c.in_ok-fill.ensures.some (c.in_ok-fill.ensures.found held follow))

pub returns-clause-left : goal.returns-clause-left
returns-clause-left g c = λ held follow.
    let cells = g.R.Rows.seen.cells c.args.rows.now in
    let after = position_of c.args.after.now in
    first_left cells after (into_iter_items c.fill.new.self.places) (into_iter_items c.next.new.self) c.fill.new.self.is_end c.cell_at.result c.next.result c.cell_at.ensures c.next.ensures.items (c.in_ok-fill.ensures.found held follow)
