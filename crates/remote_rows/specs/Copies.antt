-- Copies of edits.
use Rattle.std.specs.Prelude.{◌≡◌, ◌≢◌, ◌⊎◌, ◌++◌, ℕ, List, [], ◌∷◌}
use Rattle.cell_key.specs.Cells.{Cells, after_edit, edited_key, value_len}
use Rattle.cell_key.specs.declared.edits.Edit.{Edit}

-- an edit of the same key to the same value
pub record IsCopyOf (edit copy : Edit) : Type 0 where
  pub key : edited_key copy ≡ edited_key edit
  pub value : value_len copy ≡ value_len edit
  pub made : (cells : Cells) → after_edit cells copy ≡ after_edit cells edit

-- a copy is appended
abbrev pub Appends : Edit → List Edit → List Edit → Type 0
Appends edit old new = (copy : Edit) × IsCopyOf edit copy × (new ≡ old ++ copy ∷ [])

-- a copy is appended if the edit is of the row
abbrev pub AppendsIfOf : List ℕ → Edit → List Edit → List Edit → Type 0
AppendsIfOf row edit old new =
    (((edited_key edit).row ≡ row) × Appends edit old new)
    ⊎ (((edited_key edit).row ≢ row) × (new ≡ old))
