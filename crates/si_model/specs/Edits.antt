-- The row transactions that remove a lock, and their effect on the cells.
use Rattle.std.specs.Prelude.{◌≡◌, ℕ, List}
use Rattle.cell_key.specs.Cells.{Cells, after_edits}
use Rattle.cell_key.specs.declared.edits.Edit.{Edit}
use Rattle.cell_key.specs.declared.keys.Qualifier.TheVariants.{Lock}
use Rattle.cell_key.specs.LockEdits.{IsErasing, IsRecording}
use Rattle.cell_key.specs.declared.columns.WriteKind.{WriteKind}
use Rattle.si_model.specs.ShowsCells.{IsThere, recorded_cells, erased_cells}
use Rattle.si_model.specs.declared.replies.Cell.{Cell}

-- The row and the edits by which t records x at c. If the rows are intact, x has the lock.
abbrev pub RecordsCell : Type 0 → Cells → Cell → ℕ → ℕ → WriteKind → List ℕ → List Edit → Type 0
RecordsCell Holds cells x t c kind row edits =
    (row ≡ x.row) × (Holds → IsThere cells x Lock t) × IsRecording x.row x.family t c kind edits

-- the row and the edits by which the lock of t on x is erased, under the same condition
abbrev pub ErasesCell : Type 0 → Cells → Cell → ℕ → List ℕ → List Edit → Type 0
ErasesCell Holds cells x t row edits =
    (row ≡ x.row) × (Holds → IsThere cells x Lock t) × IsErasing x.row x.family t edits

-- the effect of these edits on the cells
pub record MakeCells (cells : Cells) (x : Cell) (t : ℕ) (edits : List Edit) : Type 0 where
  pub recorded : (c : ℕ) (kind : WriteKind) → IsRecording x.row x.family t c kind edits
      → after_edits cells edits ≡ recorded_cells cells x t c kind
  pub erased : IsErasing x.row x.family t edits → after_edits cells edits ≡ erased_cells cells x t
