-- What remote rows show of the cells at the other end.
use Rattle.std.specs.FinMap.{empty}
use Rattle.std.specs.Prelude.{◌≡◌, ℕ, List, Option, Some, IfSome, unwrap_or}
use Rattle.cell_key.specs.Cells.{Cells}
use Rattle.remote_rows.specs.Wires.{IsSameRow, WireView}
use Rattle.remote_rows.specs.declared.held_row.HeldRow.{HeldRow}

-- a row in memory is as it is in the cells, and has its guard
pub record IsHeldOf (cells : Cells) (guard : List ℕ → ℕ) (held : HeldRow) : Type 0 where
  pub guard_is : held.guard ≡ guard held.row
  pub same : IsSameRow held.row cells held.rows

-- the other end tells these cells, and the row in memory, if there is one, is one of theirs
pub record Shows {W : Type 0} (seen : WireView W) (wire : W) (held : Option HeldRow) (cells : Cells)
    : Type 0 where
  pub told : seen.cells wire ≡ Some cells
  pub one : IfSome held (IsHeldOf cells (seen.guard wire))

-- the other end tells its cells
abbrev pub IsShown : {W : Type 0} → WireView W → W → Option HeldRow → Type 0
IsShown seen wire held = (cells : Cells) × Shows seen wire held cells

-- its cells, as far as they are told
abbrev pub shown_cells : {W : Type 0} → WireView W → W → Cells
shown_cells seen wire = unwrap_or (seen.cells wire) empty
