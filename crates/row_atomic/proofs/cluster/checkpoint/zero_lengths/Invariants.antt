-- The files of the places that were passed have a 0 each.
use Rattle.std.proofs.Common.{◌≡◌, ◌++◌, List, length}
use Rattle.std.specs.Prelude.{replicate}
use Rattle.metadata_table.specs.Places.{PlaceView, views}
use Rattle.metadata_table.specs.Roots.{file_names}
use Rattle.row_atomic.proofs.cluster.checkpoint.zero_lengths.Given as goal

abbrev pub invariant-places : goal.invariant-places
invariant-places l = record {
  front : List PlaceView;
  parts : front ++ views l.rest ≡ l.table;
  zeros : l.lengths.items ≡ replicate (length (file_names front)) 0;
}

abbrev pub decreases-places : goal.decreases-places
decreases-places l = length l.rest
