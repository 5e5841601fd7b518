-- The places found so far are the next ones, the tablets passed have no more, and the files' contents are the same.
use Rattle.std.proofs.Common.{◌≡◌, ◌<◌, ◌≤◌, length, take, drop, option_map, Some}
use Rattle.std.specs.List.{AllByRecursion}
use Rattle.cell_key.specs.Places.{place_named}
use Rattle.file_store.specs.Store.{Contents}
use Rattle.metadata_table.specs.Places.{views}
use Rattle.row_atomic.specs.Changes.{Passes}
use Rattle.row_atomic.specs.Clusters.{AreOpenFrom}
use Rattle.row_atomic.proofs.ManyNexts.{HasScanned}
use Rattle.row_atomic.proofs.cluster.row_calls.next_cells_in.Given as goal

abbrev pub invariant-loop-place : goal.invariant-loop-place
invariant-loop-place g l = record {
  same : g.F.Files.contents l.files ≡ g.F.Files.contents l.initial.files;
  quiet : g.F.Files.faults l.files ≡ g.F.Files.faults l.initial.files;
  few : length l.found.items ≤ l.most;
  told : (m : Contents) → g.F.Files.contents l.initial.files ≡ Some m → AreOpenFrom m l.tablets (option_map place_named l.after) (views l.places)
      → HasScanned m l.tablets (option_map place_named l.after) l.most l.found.items (views (take l.place-index l.places)) (views (drop l.place-index l.places));
  left : length l.found.items < l.most → AllByRecursion (Passes (g.F.Files.contents l.initial.files) l.tablets (option_map place_named l.after) l.found.items) (views (take l.place-index l.places));
}
