-- Results of reads of a column.
use Rattle.std.specs.Prelude.{◌≡◌, ◌≤◌, ◌-◌, ℕ, Bool, List, [], ◌∷◌, Option, Some, None, is_some}
use Rattle.cell_key.specs.Cells.{Cells, IsNewest}
use Rattle.cell_key.specs.declared.keys.CellKey.{CellKey}

-- whether there is a version with a stamp in lo..=hi, where `at` gives the keys by their stamps
pub record HasVersion (cells : Cells) (at : ℕ → CellKey) (lo hi : ℕ) (has : Bool) : Type 0 where
  pub found : Option (ℕ × List ℕ)
  pub newest : IsNewest cells at lo hi found
  pub is : has ≡ is_some found

-- The versions of a column with stamps up to `hi`, the newest first, `most` of them or all if there are fewer. `at`
-- gives the keys by their stamps.
abbrev pub AreNewestFirst : Cells → (ℕ → CellKey) → ℕ → ℕ → List (ℕ × List ℕ) → Type 0
AreNewestFirst cells at hi most [] = 1 ≤ most → IsNewest cells at 0 hi None
AreNewestFirst cells at hi most (found ∷ rest) =
    (1 ≤ most) × IsNewest cells at 0 hi (Some found) × (1 ≤ found.0)
    × AreNewestFirst cells at (found.0 - 1) (most - 1) rest
