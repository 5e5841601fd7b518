-- The answers of rows are determined by their cell map.
use Rattle.std.specs.Prelude.{◌≡◌, ℕ, List, Option}
use Rattle.cell_key.specs.Cells.{Cells, IsNewest}
use Rattle.cell_key.specs.declared.keys.CellKey.{CellKey}
use Rattle.cell_key.specs.Places.{Place, IsNextCell}

-- a range of stamps has only one newest version
abbrev pub OneNewest : Type 0
OneNewest =
    (cells : Cells) (at : ℕ → CellKey) (lo hi : ℕ) (a b : Option (ℕ × List ℕ))
    → IsNewest cells at lo hi a → IsNewest cells at lo hi b → a ≡ b

-- a place has only one next cell
abbrev pub OneNextCell : Type 0
OneNextCell =
    (cells : Cells) (after a b : Option Place) → IsNextCell cells after a → IsNextCell cells after b
    → a ≡ b
