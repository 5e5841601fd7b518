use Rattle.std.proofs.Common.{◌∷◌, length}
use Rattle.std.specs.Prelude.{◌↔◌}
use Rattle.metadata_table.specs.Places.{view_of, views}
use Rattle.metadata_table.specs.Table.{EndsRise}
use Rattle.metadata_table.proofs.root.check.ends_rise.Given as goal

abbrev pub invariant-places : goal.invariant-places
invariant-places l = EndsRise (views l.fn.places) ↔ EndsRise (view_of l.last ∷ views l.rest)

abbrev pub decreases-places : goal.decreases-places
decreases-places l = length l.rest
