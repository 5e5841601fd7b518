-- Ranges of the stamps of keys.
use Rattle.std.specs.Prelude.{◌≡◌, ◌≤◌, ◌<◌, ◌⊎◌, ℕ}
use Rattle.cell_key.specs.Cells.{edited_key}
use Rattle.cell_key.specs.Entries.{Entry}
use Rattle.cell_key.specs.Keys.{text, IsStored}
use Rattle.cell_key.specs.declared.edits.Edit.{Edit}
use Rattle.cell_key.specs.declared.keys.CellKey.{CellKey}
use Rattle.memtable.specs.declared.stamp_range.StampRange.{StampRange}

-- a stamp is within a range
abbrev pub HasStamp : StampRange → ℕ → Type 0
HasStamp range stamp = (range.least ≤ stamp) × (stamp ≤ range.greatest)

-- no stamp from lo to hi is within a range
abbrev pub IsOutside : StampRange → ℕ → ℕ → Type 0
IsOutside range lo hi = (hi < range.least) ⊎ (range.greatest < lo)

-- the stamp of the entry's key is within a range
abbrev pub IsEntryWithin : StampRange → Entry → Type 0
IsEntryWithin range e = (key : CellKey) → IsStored key → e.0 ≡ text key → HasStamp range key.stamp

-- the stamp of the edit's key is within a range
abbrev pub IsEditWithin : StampRange → Edit → Type 0
IsEditWithin range edit = HasStamp range (edited_key edit).stamp
