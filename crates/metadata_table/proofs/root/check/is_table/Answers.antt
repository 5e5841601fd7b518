use Rattle.std.proofs.Common.{rules, ◌≢◌, ◌≤◌, length}
use Rattle.std.specs.Prelude.{AllPairs, ◌↔◌}
use Rattle.std.specs.List.{AllByRecursion}
use Rattle.metadata_table.specs.Places.{PlaceView, view_of, views}
use Rattle.metadata_table.specs.Table.{EndsRise, IsNumbered, IsTable, most_tablets}
use Rattle.metadata_table.proofs.RootChecks.{table_when}
use Rattle.metadata_table.proofs.root.check.is_table.Goals as goal

pub returns-then-tablets_differ : goal.returns-then-tablets_differ
returns-then-tablets_differ c =
    let places = c.args.places.now in
    let few : length places ≤ most_tablets = search rules in
    let rising : EndsRise (views places) = search rules in
    let distinct : AllPairs (λ (p q : PlaceView). p.tablet ≢ q.tablet) (views places) = search rules in
    let same : AllByRecursion (λ place. IsNumbered (length places) (view_of place)) places ↔ IsTable (views places) = table_when places few rising distinct in
    (λ is. same.0 (c.are_numbered.ensures.0 is), λ t. c.are_numbered.ensures.1 (same.1 t))
