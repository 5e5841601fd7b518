-- Bounds of entries: of their rows and stamps, for each kind of column.
use Rattle.std.specs.Prelude.{◌≡◌, ◌≤◌, ℕ, List, [], ◌∷◌, get_or, None}
use Rattle.std.specs.Int.{w64, from_be_bytes}
use Rattle.cell_key.specs.Keys.{text, IsStored}
use Rattle.cell_key.specs.Entries.{Entry, entry_of_key}
use Rattle.cell_key.specs.declared.keys.CellKey.{CellKey}
use Rattle.cell_key.specs.declared.keys.Qualifier.{Qualifier}
use Rattle.cell_key.specs.declared.keys.Qualifier.TheVariants.{Data, Lock, Write}
use Rattle.sorted_file.specs.declared.bounds.Bounds.{Bounds}
use Rattle.sorted_file.specs.declared.bounds.ColumnBounds.{ColumnBounds}

-- the first eight bytes of a row as a number, padded with zeros if the row is shorter
abbrev pub front : List ℕ → ℕ
front row = from_be_bytes w64 (get_or row 0 0 ∷ get_or row 1 0 ∷ get_or row 2 0 ∷ get_or row 3 0
    ∷ get_or row 4 0 ∷ get_or row 5 0 ∷ get_or row 6 0 ∷ get_or row 7 0 ∷ [])

-- a row and a stamp are within the bounds
pub record IsWithin (bounds : Bounds) (row : List ℕ) (stamp : ℕ) : Type 0 where
  pub least : bounds.least ≤ stamp
  pub greatest : stamp ≤ bounds.greatest
  pub first : bounds.first ≤ front row
  pub last : front row ≤ bounds.last

abbrev pub column_bounds : ColumnBounds → Qualifier → Bounds
column_bounds bounds Data = bounds.data
column_bounds bounds Lock = bounds.lock
column_bounds bounds Write = bounds.write

-- the bounds of the first are within those of the second
abbrev pub AreWithin : ColumnBounds → ColumnBounds → Type 0
AreWithin old new =
    (q : Qualifier) (row : List ℕ) (stamp : ℕ) → IsWithin (column_bounds old q) row stamp
    → IsWithin (column_bounds new q) row stamp

-- the row and the stamp of an entry's key are within the bounds
abbrev pub IsBounded : ColumnBounds → Entry → Type 0
IsBounded bounds entry =
    (key : CellKey) → IsStored key → entry.0 ≡ text key
    → IsWithin (column_bounds bounds key.qualifier) key.row key.stamp

-- entries have no entry, value or erasure, in columns of this kind at these stamps
abbrev pub HasNoneOfKind : Qualifier → ℕ → ℕ → List Entry → Type 0
HasNoneOfKind qualifier lo hi es =
    (key : CellKey) → IsStored key → key.qualifier ≡ qualifier → lo ≤ key.stamp → key.stamp ≤ hi
    → entry_of_key es (text key) ≡ None
