-- Laws of tablets.
use Rattle.std.specs.Prelude.{◌≡◌, ℕ, List, Some, None, true, false, if◌then◌else◌}
use Rattle.std.specs.List.{AllByRecursion}
use Rattle.std.specs.FinMap.{get}
use Rattle.cell_key.specs.Keys.{IsStored, text}
use Rattle.cell_key.specs.Cells.{after_edits, edited_key}
use Rattle.cell_key.specs.Entries.{IsEntryList, first_naming, value_of}
use Rattle.cell_key.specs.declared.edits.Edit.{Edit}
use Rattle.cell_key.specs.declared.keys.CellKey.{CellKey}
use Rattle.file_store.specs.Store.{Contents}
use Rattle.memtable.specs.Edits.{HasStoredKey, IsLimited, with_edits}
use Rattle.sorted_file.specs.File.{HasFile}
use Rattle.tablet.specs.Ranges.{has_row}
use Rattle.tablet.specs.Views.{range_of, memory_of, names_of, lists_of, view_of, with_memory, cells_at, Holds, IsBelow, UsesName}
use Rattle.tablet.specs.declared.tablet.Tablet.{Tablet}

-- A tablet shows an entry list, and no cell outside its range.
abbrev pub StaysInRange : Type 0
StaysInRange =
    (m : Contents) (t : Tablet) → Holds m t → IsEntryList (view_of m t)
    × ((key : CellKey) → has_row (range_of t) key.row ≡ false → get (cells_at m t) key ≡ None)

-- In its range a tablet shows a key's value in the first of its lists that names the key:
-- the memtable, and then the files, the newest first.
abbrev pub ShowsItsLists : Type 0
ShowsItsLists =
    (m : Contents) (t : Tablet) → Holds m t → (key : CellKey) → IsStored key
    → get (cells_at m t) key
    ≡ (if has_row (range_of t) key.row
    then value_of (first_naming (lists_of m t) (text key)) else None)

-- Writing a file under a name that none of a tablet's files has had changes nothing for the tablet.
abbrev pub OthersStay : Type 0
OthersStay =
    (m n : Contents) (before after : ℕ) (t : Tablet) → UsesName (Some m) before (Some n) after
    → Holds m t → IsBelow before t → Holds n t × IsBelow after t × (cells_at n t ≡ cells_at m t)

-- As long as the bytes under the names of its files are unchanged, nothing changes for a tablet, whatever else is
-- removed or written.
abbrev pub UnnamedMayGo : Type 0
UnnamedMayGo =
    (m n : Contents) (t : Tablet) → Holds m t
    → AllByRecursion (λ name. get n name ≡ get m name) (names_of t)
    → Holds n t × (cells_at n t ≡ cells_at m t)

-- Tablets with the same range, the same memtable and the same file names have the same cells.
abbrev pub SameCells : Type 0
SameCells =
    (m : Contents) (t u : Tablet) → Holds m t → Holds m u → range_of t ≡ range_of u
    → memory_of t ≡ memory_of u → names_of t ≡ names_of u → cells_at m t ≡ cells_at m u

-- Every file of a tablet exists.
abbrev pub FilesAreThere : Type 0
FilesAreThere = (m : Contents) (t : Tablet) → Holds m t → AllByRecursion (HasFile m) (names_of t)

-- Edits of rows in its range, put into the memtable of a tablet that holds, are edits of its cells, and it still holds.
abbrev pub EditsShow : Type 0
EditsShow =
    (m : Contents) (t : Tablet) (edits : List Edit) → Holds m t
    → AllByRecursion IsLimited edits → AllByRecursion HasStoredKey edits
    → AllByRecursion (λ edit. has_row (range_of t) (edited_key edit).row ≡ true) edits
    → Holds m (with_memory t (with_edits (memory_of t) edits))
    × (cells_at m (with_memory t (with_edits (memory_of t) edits))
    ≡ after_edits (cells_at m t) edits)
