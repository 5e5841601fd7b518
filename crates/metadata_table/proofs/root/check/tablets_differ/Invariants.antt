use Rattle.std.proofs.Common.{◌≢◌, length}
use Rattle.std.specs.Prelude.{◌↔◌, AllPairs}
use Rattle.metadata_table.specs.Places.{PlaceView, views}
use Rattle.metadata_table.proofs.root.check.tablets_differ.Given as goal

abbrev pub invariant-places : goal.invariant-places
invariant-places l = AllPairs (λ (p q : PlaceView). p.tablet ≢ q.tablet) (views l.fn.places) ↔ AllPairs (λ (p q : PlaceView). p.tablet ≢ q.tablet) (views l.rest)

abbrev pub decreases-places : goal.decreases-places
decreases-places l = length l.rest
