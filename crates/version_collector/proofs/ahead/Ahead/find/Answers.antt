use Rattle.std.proofs.Common.{Option, List, nat_lt, sym, subst, arith}
use Rattle.std.proofs.lemmas.Bool.{ltb-true}
use Rattle.cell_key.specs.Places.{AreNextCells, Place}
use Rattle.rows.specs.Calls.{AreReadableFrom}
use Rattle.version_collector.specs.Ahead.{Follow}
use Rattle.version_collector.specs.Visits.{position_of}
use Rattle.version_collector.proofs.AheadCells.{follow_found}
use Rattle.version_collector.proofs.ahead.Ahead.find.Goals as goal

pub returns-clause-found : goal.returns-clause-found
returns-clause-found g c = λ held.
    let cells = g.R.Rows.seen.cells c.args.rows.now in
    let after = position_of c.args.after.now in
    let most = c.min-most.result in
    let places = c.in_ok-found.found.items in
    let is_end = nat_lt c.len.result most in
    let next = subst (λ (o : Option Place). AreNextCells cells o most places) c.place_after.ensures (c.in_ok-found.ensures.found (subst (λ (o : Option Place). AreReadableFrom g.R.Rows.seen c.args.rows.now o) (sym c.place_after.ensures) held)) in
    subst (λ (ps : List Place). Follow cells after ps is_end) (sym c.into_iter.ensures.rest)
    (follow_found cells after most places is_end next (λ less. let fewer = ltb-true c.len.result most less in omega (arith, fewer, c.len.ensures, c.in_ok-found.found.ok.0)))
