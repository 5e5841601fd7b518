-- Cells with the newest versions of their columns, and batches of them.
use Rattle.std.specs.Prelude.{◌≡◌, ◌≢◌, ◌⊎◌, ◌≤◌, ◌+◌, ℕ, true, List, length, map, sum_by, Option, Some, None}
use Rattle.std.specs.List.{AllByRecursion}
use Rattle.cell_key.specs.Cells.{Cells, IsNewest, version}
use Rattle.cell_key.specs.Entries.{or_else}
use Rattle.cell_key.specs.Places.{AreNextCells, IsNextCell, Place, last_or}
use Rattle.cell_key.specs.declared.keys.Qualifier.{Qualifier}
use Rattle.cell_key.specs.declared.keys.Qualifier.TheVariants.{Data, Lock, Write}
use Rattle.rows.specs.declared.batches.BatchLimits.{BatchLimits}
use Rattle.rows.specs.declared.batches.CellVersions.{CellVersions}
use Rattle.rows.specs.declared.batches.VersionBatch.{VersionBatch}

-- the cell's place
abbrev pub place_in : CellVersions → Place
place_in found = (found.row, found.family)

abbrev pub places_in : List CellVersions → List Place
places_in found = map place_in found

-- the version of a column, if it has one
abbrev pub of_column : CellVersions → Qualifier → Option (ℕ × List ℕ)
of_column found Data = found.data
of_column found Lock = found.lock
of_column found Write = found.write

-- each column has its newest version at or below a stamp
abbrev pub HasNewest : Cells → ℕ → CellVersions → Type 0
HasNewest cells hi found =
    (qualifier : Qualifier)
    → IsNewest cells (version found.row found.family qualifier) 0 hi (of_column found qualifier)

-- the bytes of values
abbrev pub value_bytes : Option (ℕ × List ℕ) → ℕ
value_bytes None = 0
value_bytes (Some found) = length found.1

abbrev pub bytes_of : CellVersions → ℕ
bytes_of found =
    value_bytes (of_column found Data) + value_bytes (of_column found Lock)
    + value_bytes (of_column found Write)

abbrev pub bytes_in : List CellVersions → ℕ
bytes_in found = sum_by bytes_of found

-- the cells have reached the number, or their values the bytes, of the limits
abbrev pub IsFull : BatchLimits → List CellVersions → Type 0
IsFull limits found = (limits.cells ≤ length found) ⊎ (limits.bytes ≤ bytes_in found)

-- Its cells are the next ones after the given place, in order, with their newest versions at or below a stamp. If
-- `is_last`, no cell comes after them.
pub record AreNextVersions (cells : Cells) (after : Option Place) (hi : ℕ)
    (batch : VersionBatch) : Type 0 where
  pub next : AreNextCells cells after (length batch.cells.items) (places_in batch.cells.items)
  pub newest : AllByRecursion (HasNewest cells hi) batch.cells.items
  pub last : batch.is_last ≡ true
      → IsNextCell cells (last_or after (places_in batch.cells.items)) None

-- a column keeps the version that it has, or gets this one if it has none; other columns are unchanged
pub record Keeps (qualifier : Qualifier) (found : ℕ × List ℕ) (old new : CellVersions) : Type 0 where
  pub place : place_in new ≡ place_in old
  pub column : of_column new qualifier ≡ or_else (of_column old qualifier) (Some found)
  pub others : (q : Qualifier) → q ≢ qualifier → of_column new q ≡ of_column old q
