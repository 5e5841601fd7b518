-- Indices of writes, sorted by cell.
use Rattle.std.specs.Prelude.{◌≡◌, ℕ, ◌<◌, ◌≤◌, List, Option, Some, length, slice_get, All, AllPairs, Contains}
use Rattle.std.specs.declared.cmp.Ordering.{Ordering}
use Rattle.std.specs.declared.cmp.Ordering.TheVariants.{Less, Greater}
use Rattle.std.specs.Ordering.{on, then_cmp}
use Rattle.std.specs.Option.{option_map, option_cmp}
use Rattle.std.specs.List.Sorted.{IsPartitionPoint}
use Rattle.cell_key.specs.Keys.{byte_cmp}
use Rattle.si_model.specs.declared.replies.Cell.{Cell}
use Rattle.txn_client.specs.declared.writes.Write.{Write}

-- compares cells by row, then by family
abbrev pub cell_cmp : Cell → Cell → Ordering
cell_cmp = then_cmp (on (λ (x : Cell). x.row) byte_cmp) (on (λ (x : Cell). x.family) byte_cmp)

-- the cell of the write at an index
abbrev pub cell_at : List Write → ℕ → Option Cell
cell_at ws i = option_map (λ (w : Write). w.cell) (slice_get ws i)

-- compares that cell with another one
abbrev pub order_at : List Write → Cell → ℕ → Ordering
order_at ws x i = option_cmp cell_cmp (cell_at ws i) (Some x)

-- these indices are sorted by cell, and include each write but the first 8
pub record IsOrder (ws : List Write) (order : List ℕ) : Type 0 where
  pub within : All (λ i. i < length ws) order
  pub rises : AllPairs (λ i j. option_cmp cell_cmp (cell_at ws i) (cell_at ws j) ≡ Less) order
  pub each : (i : ℕ) → 8 ≤ i → i < length ws → Contains order i

-- the cells before the place are below x, and the others are above it
pub record IsPlaceFor (ws : List Write) (order : List ℕ) (x : Cell) (place : ℕ) : Type 0 where
  pub bound : place ≤ length order
  pub parts : IsPartitionPoint
      (λ i. order_at ws x i ≡ Less) (λ i. order_at ws x i ≡ Greater) order place
