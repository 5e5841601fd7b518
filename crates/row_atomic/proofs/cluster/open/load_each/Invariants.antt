-- The tablets of the first numbers are loaded.
use Rattle.std.proofs.Common.{◌≡◌, ◌≤◌, length}
use Rattle.metadata_table.specs.Table.{IsTable}
use Rattle.row_atomic.proofs.LoadedTablets.{IsLoading}
use Rattle.row_atomic.proofs.cluster.open.load_each.Given as goal

abbrev pub invariant-loop-number : goal.invariant-loop-number
invariant-loop-number g l = record {
  as_many : l.number-end ≡ length l.initial.table;
  table : IsTable l.initial.table;
  within : l.number ≤ length l.initial.table;
  same : g.F.Files.contents l.files ≡ g.F.Files.contents l.initial.files;
  quiet : g.F.Files.faults l.files ≡ g.F.Files.faults l.initial.files;
  loading : IsLoading (g.F.Files.contents l.initial.files) l.initial.table l.tablets.items l.number;
}
