-- The writes that a session takes together, and which of them may be put.
use Rattle.std.specs.Prelude.{◌≡◌, ℕ, ◌+◌, ◌<◌, List, Some, slice_get}
use Rattle.cell_key.specs.Cells.{Cells}
use Rattle.rows.specs.Calls.{View}
use Rattle.txn_client.specs.Reads.{IsFree, IsTaken}
use Rattle.txn_client.specs.declared.writes.Write.{Write}

-- the rows of all writes can be read
abbrev pub AreReadable : {R : Type 0} → View R → R → List Write → Type 0
AreReadable seen rows ws =
    (k : ℕ) (w : Write) → slice_get ws k ≡ Some w → seen.readable rows w.cell.row

-- the cells of the writes before the place are free
abbrev pub AreFree : Cells → ℕ → List Write → ℕ → Type 0
AreFree cells s ws n = (k : ℕ) (w : Write) → k < n → slice_get ws k ≡ Some w → IsFree cells w.cell s

-- the cell at this place is the first one that isn't free; places count from 1
abbrev pub IsFirstTaken : Cells → ℕ → List Write → ℕ → Type 0
IsFirstTaken cells s ws place =
    (k : ℕ) × (w : Write) × (slice_get ws k ≡ Some w) × (place ≡ k + 1)
    × IsTaken cells w.cell s × AreFree cells s ws k
