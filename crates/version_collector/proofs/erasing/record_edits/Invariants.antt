use Rattle.std.proofs.Common.{◌≡◌, take}
use Rattle.std.specs.List.{AllByRecursion}
use Rattle.cell_key.specs.Cells.{IsEditOf}
use Rattle.version_collector.specs.Erasing.{record_erasures}
use Rattle.version_collector.proofs.erasing.record_edits.Given as goal

-- the edits of the records so far
abbrev pub invariant-loop-commit : goal.invariant-loop-commit
invariant-loop-commit l = record {
  edits : l.edits.items ≡ record_erasures l.cell (take l.commit-index l.records);
  under : AllByRecursion (IsEditOf l.cell.row) l.edits.items;
}
