use Rattle.std.proofs.Common.{◌≡◌, take}
use Rattle.std.specs.List.{AllByRecursion}
use Rattle.cell_key.specs.Cells.{IsEditOf}
use Rattle.version_collector.specs.Erasing.{data_erasures}
use Rattle.version_collector.proofs.erasing.data_edits.Given as goal

-- the edits of the data so far
abbrev pub invariant-loop-start : goal.invariant-loop-start
invariant-loop-start l = record {
  edits : l.edits.items ≡ data_erasures l.cell (take l.start-index l.starts);
  under : AllByRecursion (IsEditOf l.cell.row) l.edits.items;
}
