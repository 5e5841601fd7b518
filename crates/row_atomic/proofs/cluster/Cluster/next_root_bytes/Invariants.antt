-- The bytes of the places that were passed are counted.
use Rattle.std.proofs.Common.{◌≡◌, ◌+◌, ◌++◌, List, length}
use Rattle.std.specs.Prelude.{◌-◌, ◌^◌, min}
use Rattle.metadata_table.specs.Places.{PlaceView, views}
use Rattle.row_atomic.specs.RootLengths.{places_length}
use Rattle.row_atomic.proofs.cluster.Cluster.next_root_bytes.Given as goal

abbrev pub invariant-places : goal.invariant-places
invariant-places g l = record {
  front : List PlaceView;
  parts : front ++ views l.rest ≡ l.self.places;
  bytes : l.bytes ≡ min (places_length front + 5086) (2 ^ 64 - 1);
}

abbrev pub decreases-places : goal.decreases-places
decreases-places g l = length l.rest
