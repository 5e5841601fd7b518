-- Edits of rows, and the room in memory that they use. The definitions are about any rows, and about edits given as a
-- relation of a row and its edits.
use Rattle.std.specs.Prelude.{◌≡◌, ◌⊎◌, ℕ, List, ◌++◌, Contains}
use Rattle.cell_key.specs.Cells.{Cells, after_edits}
use Rattle.cell_key.specs.declared.edits.Edit.{Edit}
use Rattle.rows.specs.RowEdits.{all_edits}
use Rattle.rows.specs.declared.row_edits.RowEdits.{RowEdits}

-- the new cells are the old ones after such edits of a row
abbrev pub AreAfter : (List ℕ → List Edit → Type 0) → Cells → Cells → Type 0
AreAfter Changes old new =
    (row : List ℕ) × (edits : List Edit) × Changes row edits × (new ≡ after_edits old edits)

-- such edits of a row would exceed a limit of the memory
abbrev pub HasNoRoom : {R : Type 0}
    → (R → List ℕ → List Edit → Type 0) → R → (List ℕ → List Edit → Type 0) → Type 0
HasNoRoom overfills rows Changes =
    (row : List ℕ) × (edits : List Edit) × Changes row edits × overfills rows row edits

-- the memory has at least the room that it had: edits that would exceed a limit now would have before
abbrev pub TakesNoRoom : {R : Type 0} → (R → List ℕ → List Edit → Type 0) → R → R → Type 0
TakesNoRoom overfills old new =
    (row : List ℕ) (later : List Edit) → overfills new row later → overfills old row later

-- the memory has at least the room left after such edits of a row: edits that would exceed a limit now would have
-- before, or after those edits
abbrev pub TakesRoomOf : {R : Type 0}
    → (R → List ℕ → List Edit → Type 0) → (List ℕ → List Edit → Type 0) → R → R → Type 0
TakesRoomOf overfills Changes old new = (row : List ℕ) (later : List Edit) → overfills new row later
    → overfills old row later
    ⊎ HasNoRoom (λ rows changed edits. overfills rows row (edits ++ later)) old Changes

-- All the edits of several rows together would exceed a limit of the memory that holds one of the rows.
pub record OverfillsOne {R : Type 0} (overfills : R → List ℕ → List Edit → Type 0)
    (changes : List RowEdits) (rows : R) : Type 0 where
  pub change : RowEdits
  pub among : Contains changes change
  pub over : overfills rows change.row (all_edits changes)
