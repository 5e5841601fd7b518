-- Edits of several rows.
use Rattle.std.specs.Prelude.{List}
use Rattle.std.specs.List.{AllByRecursion, flat_map}
use Rattle.cell_key.specs.Cells.{IsEditOf}
use Rattle.cell_key.specs.declared.edits.Edit.{Edit}
use Rattle.rows.specs.declared.row_edits.RowEdits.{RowEdits}

-- the edits of all rows, one row after the other
abbrev pub all_edits : List RowEdits → List Edit
all_edits changes = flat_map (λ change. change.edits.items) changes

-- each of the edits is of its row, and within the limits
abbrev pub AreOfTheirRow : RowEdits → Type 0
AreOfTheirRow change = AllByRecursion (IsEditOf change.row) change.edits.items
