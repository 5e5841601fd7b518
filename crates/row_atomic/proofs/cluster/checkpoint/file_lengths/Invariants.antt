-- The files of the places before the index are measured.
use Rattle.std.proofs.Common.{◌≡◌, ◌++◌, List, length, IfSome}
use Rattle.metadata_table.specs.Places.{PlaceView, views}
use Rattle.metadata_table.specs.Roots.{file_names}
use Rattle.row_atomic.specs.Roots.{AreMeasured}
use Rattle.row_atomic.proofs.cluster.checkpoint.file_lengths.Given as goal

abbrev pub invariant-places : goal.invariant-places
invariant-places g l = record {
  same : g.F.Files.contents l.files ≡ g.F.Files.contents l.initial.files;
  quiet : g.F.Files.faults l.files ≡ g.F.Files.faults l.initial.files;
  front : List PlaceView;
  parts : front ++ views l.rest ≡ l.table;
  count : length l.lengths.items ≡ length (file_names front);
  measured : IfSome (g.F.Files.contents l.initial.files) (λ m. AreMeasured m (file_names front) l.lengths.items);
}

abbrev pub decreases-places : goal.decreases-places
decreases-places g l = length l.rest
