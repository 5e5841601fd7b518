-- Views of tablets: the merged entries of memtable and files, cut to the range (Bigtable, tablet serving).
use Rattle.std.specs.Prelude.{◌≡◌, ◌<◌, ◌+◌, ◌⊎◌, ℕ, List, [], ◌∷◌, map, sum_by, Option, None, IfSome, IsSomeAnd, if◌then◌else◌}
use Rattle.std.specs.List.{AllByRecursion}
use Rattle.std.specs.FinMap.{get}
use Rattle.cell_key.specs.Cells.{Cells}
use Rattle.cell_key.specs.Entries.{Entry, IsEntryList, cells_of, merged}
use Rattle.cell_key.specs.declared.keys.CellKey.{CellKey}
use Rattle.file_store.specs.Store.{Contents, KeepsOthers}
use Rattle.sorted_file.specs.File.{IsOpen, bytes_of, listed, name_of}
use Rattle.sorted_file.specs.declared.file.SortedFile.{SortedFile}
use Rattle.tablet.specs.Ranges.{has_row, seen}
use Rattle.tablet.specs.declared.ranges.RowRange.{RowRange}
use Rattle.tablet.specs.declared.tablet.Tablet.{Tablet}

-- its range, its memtable's entries, its open files and their names, the newest first
abbrev pub range_of : Tablet → RowRange
range_of t = t.range

abbrev pub memory_of : Tablet → List Entry
memory_of t = t.memtable

abbrev pub files_of : Tablet → List SortedFile
files_of t = t.files

abbrev pub names_of : Tablet → List ℕ
names_of t = map name_of (files_of t)

-- how many bytes the entries of its files take in them
abbrev pub file_bytes_of : Tablet → ℕ
file_bytes_of t = sum_by bytes_of (files_of t)

-- the tablet with these entries in its memtable
abbrev pub with_memory : Tablet → List Entry → Tablet
with_memory t es = record t { memtable = es }

-- a tablet's lists, the newest first
abbrev pub lists_of : Contents → Tablet → List (List Entry)
lists_of m t = memory_of t ∷ map (listed m) (files_of t)

-- the entries that it shows: its lists merged, cut to its range
abbrev pub view_of : Contents → Tablet → List Entry
view_of m t = merged (map (seen (range_of t)) (lists_of m t))

-- its cell map
abbrev pub cells_at : Contents → Tablet → Cells
cells_at m t = cells_of (view_of m t)

-- a tablet's files are open over these files
pub record Holds (m : Contents) (t : Tablet) : Type 0 where
  pub memory : IsEntryList (memory_of t)
  pub files : AllByRecursion (IsOpen m) (files_of t)

-- the names of its files are below the next name
abbrev pub IsBelow : ℕ → Tablet → Type 0
IsBelow next t = AllByRecursion (λ name. name < next) (names_of t)

-- the tablet is unchanged: its range, its memtable's entries and its open files
pub record IsUnchanged (old new : Tablet) : Type 0 where
  pub range : range_of new ≡ range_of old
  pub memory : memory_of new ≡ memory_of old
  pub files : files_of new ≡ files_of old

-- A tablet is unchanged except for its files' caches: it has the same range, memtable entries and file names, and over
-- any files the same lists. If its files were open over this disk, they still are.
pub record IsSameTablet (disk : Option Contents) (old new : Tablet) : Type 0 where
  pub range : range_of new ≡ range_of old
  pub memory : memory_of new ≡ memory_of old
  pub names : names_of new ≡ names_of old
  pub lists : (m : Contents) → lists_of m new ≡ lists_of m old
  pub still : IfSome disk (λ m. Holds m old → Holds m new)

-- Either nothing was written and the next name is unchanged, or the next name is used up and the files under other
-- names are unchanged.
abbrev pub UsesName : Option Contents → ℕ → Option Contents → ℕ → Type 0
UsesName old before new after =
    ((after ≡ before) × (new ≡ old)) ⊎ ((after ≡ before + 1) × KeepsOthers before old new)

-- If its files were open, they still are, and its cells are unchanged.
abbrev pub Keeps : Option Contents → ℕ → Tablet → Option Contents → ℕ → Tablet → Type 0
Keeps old before t new after u =
    IfSome old (λ m. Holds m t → IsBelow before t
    → IsSomeAnd new (λ n. Holds n u × IsBelow after u × (cells_at n u ≡ cells_at m t)))

-- a call turned its lists into these
abbrev pub MakesLists : Option Contents → ℕ → Tablet
    → Option Contents → Tablet → (List Entry → List (List Entry) → List (List Entry)) → Type 0
MakesLists old before t new u made =
    IfSome old (λ m. Holds m t → IsBelow before t
    → IsSomeAnd new (λ n. lists_of n u ≡ made (memory_of t) (map (listed m) (files_of t))))

-- `part` has exactly the cells of `whole` that are in the range
abbrev pub IsPart : RowRange → Cells → Cells → Type 0
IsPart range whole part =
    (key : CellKey) → get part key ≡ (if has_row range key.row then get whole key else None)

-- After a split both tablets hold, and each has the cells of its own range.
pub record AreParts (m : Contents) (t : Tablet) (n : Contents) (after : ℕ)
    (left right : Tablet) : Type 0 where
  pub left_holds : Holds n left
  pub right_holds : Holds n right
  pub left_below : IsBelow after left
  pub right_below : IsBelow after right
  pub left_cells : IsPart (range_of left) (cells_at m t) (cells_at n left)
  pub right_cells : IsPart (range_of right) (cells_at m t) (cells_at n right)

-- the files' lists after a minor compaction: one more for the memtable, unless it is empty
abbrev pub flushed : RowRange → List Entry → List (List Entry) → List (List Entry)
flushed range [] lists = lists
flushed range (e ∷ es) lists = seen range (e ∷ es) ∷ lists

-- the names of the files after a minor compaction
abbrev pub with_name : ℕ → List Entry → List ℕ → List ℕ
with_name name [] names = names
with_name name (e ∷ es) names = name ∷ names

-- the tablet is unchanged, or its memtable was written under the next name
abbrev pub MayBeFlushed : ℕ → Tablet → Tablet → Type 0
MayBeFlushed next old new =
    IsUnchanged old new
    ⊎ ((memory_of new ≡ []) × (names_of new ≡ with_name next (memory_of old) (names_of old)))
