use Rattle.std.proofs.Common.{◌≡◌, length}
use Rattle.std.specs.Prelude.{◌↔◌}
use Rattle.metadata_table.specs.Places.{views}
use Rattle.metadata_table.specs.Roots.{file_names}
use Rattle.metadata_table.proofs.root.check.is_measured.Given as goal

abbrev pub invariant-places : goal.invariant-places
invariant-places l = (length l.lengths ≡ length (file_names (views l.places))) ↔ (length l.left ≡ length (file_names (views l.rest)))

abbrev pub decreases-places : goal.decreases-places
decreases-places l = length l.rest
