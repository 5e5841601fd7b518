-- The version of a column with the least stamp in a range.
use Rattle.std.specs.Prelude.{◌≡◌, ◌<◌, ◌≤◌, ℕ, List, Option, Some, None}
use Rattle.std.specs.FinMap.{get}
use Rattle.cell_key.specs.Cells.{Cells}
use Rattle.cell_key.specs.declared.keys.CellKey.{CellKey}

-- `found` is the version with the least stamp in lo..=hi, where `at` gives the keys by their stamps
abbrev pub IsOldest : Cells → (ℕ → CellKey) → ℕ → ℕ → Option (ℕ × List ℕ) → Type 0
IsOldest cells at lo hi None = (s : ℕ) → lo ≤ s → s ≤ hi → get cells (at s) ≡ None
IsOldest cells at lo hi (Some found) =
    (lo ≤ found.0) × (found.0 ≤ hi) × (get cells (at found.0) ≡ Some found.1)
    × ((s : ℕ) → lo ≤ s → s < found.0 → get cells (at s) ≡ None)
