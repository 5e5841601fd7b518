-- The writes of a session, as the machine sees them.
use Rattle.std.specs.Prelude.{◌≡◌, ◌≢◌, ℕ, ◌+◌, ◌<◌, List, Option, Some, None, length, slice_get}
use Rattle.std.specs.List.{sum_by}
use Rattle.si_model.specs.Machine.{Change}
use Rattle.si_model.specs.declared.replies.Cell.{Cell}
use Rattle.txn_client.specs.declared.writes.Write.{Write}

abbrev pub write_of : Write → Cell × Change
write_of w = (w.cell, w.value)

-- the bytes of a value; a deletion has none
abbrev pub bytes_of_change : Change → ℕ
bytes_of_change (Some value) = length value
bytes_of_change None = 0

-- the bytes of a write's row, its family and its value
abbrev pub bytes_of_write : Write → ℕ
bytes_of_write w = length w.cell.row + length w.cell.family + bytes_of_change w.value

-- the bytes of all writes
abbrev pub bytes_of : List Write → ℕ
bytes_of ws = sum_by bytes_of_write ws

-- no write before the index is to the cell
abbrev pub NoneBefore : List Write → Cell → ℕ → Type 0
NoneBefore ws x n = (k : ℕ) (w : Write) → k < n → slice_get ws k ≡ Some w → w.cell ≢ x

-- the index is the first write's to the cell; None if no write is to it
abbrev pub IsIndexOf : List Write → Cell → Option ℕ → Type 0
IsIndexOf ws x None = (k : ℕ) (w : Write) → slice_get ws k ≡ Some w → w.cell ≢ x
IsIndexOf ws x (Some index) =
    ((w : Write) × (slice_get ws index ≡ Some w) × (w.cell ≡ x)) × NoneBefore ws x index
