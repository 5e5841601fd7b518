-- The state of a cluster of tablets, and the cells that it shows.
use Rattle.std.specs.Prelude.{◌≡◌, ◌≤◌, ◌^◌, ℕ, zero, suc, List, [], ◌∷◌, length, map, filter, flat_map, Option, None, Some, IsSomeAnd, ⊤}
use Rattle.std.specs.List.{AllByRecursion, slice_get}
use Rattle.std.specs.FinMap.{empty, from_entries, entries, get}
use Rattle.cell_key.specs.Cells.{Cells, edited_key}
use Rattle.cell_key.specs.declared.edits.Edit.{Edit}
use Rattle.cell_key.specs.declared.keys.CellKey.{CellKey}
use Rattle.file_store.specs.Store.{Contents}
use Rattle.memtable.specs.Edits.{IsWithinLimits, with_edits}
use Rattle.cell_key.specs.Places.{Place}
use Rattle.metadata_table.specs.Places.{PlaceView, EndsBefore}
use Rattle.metadata_table.specs.Roots.{AreFiles}
use Rattle.metadata_table.specs.Table.{IsHolder, IsTable}
use Rattle.sorted_file.specs.Limits.{IsFileLimit}
use Rattle.rows.specs.Storage.{Storage}
use Rattle.row_atomic.specs.MergeStates.{MergeState}
use Rattle.tablet.specs.Ranges.{has_row}
use Rattle.tablet.specs.Views.{Holds, IsBelow, cells_at, files_of, memory_of, names_of, range_of}
use Rattle.tablet.specs.declared.ranges.RowRange.{RowRange}
use Rattle.tablet.specs.declared.tablet.Tablet.{Tablet}

-- its files, the most bytes of a sorted file, the next file's name, the places of its tablets in the order of their
-- ends, the tablets, each at the index of its number less 1, and the merge that is under way
pub record ClusterState (F : Type 0) : Type 0 where
  pub files : F
  pub file_limit : ℕ
  pub next_name : ℕ
  pub places : List PlaceView
  pub tablets : List Tablet
  pub merge : Option MergeState

-- the tablet with a number, if there is one
abbrev pub tablet_numbered : ℕ → List Tablet → Option Tablet
tablet_numbered zero tablets = None
tablet_numbered (suc i) tablets = slice_get tablets i

-- ---- the cells that it shows

-- all cells of all cell maps
abbrev pub joined : List Cells → Cells
joined maps = from_entries (flat_map entries maps)

-- the cells of all tablets over files whose bytes are known
abbrev pub cells_in : Option Contents → List Tablet → Cells
cells_in None tablets = empty
cells_in (Some m) tablets = joined (map (cells_at m) tablets)

-- The files' bytes are known, the files of each tablet are open over them, and their names are below the next one.
pub record InOrder (disk : Option Contents) (next : ℕ) (tablets : List Tablet) : Type 0 where
  pub contents : Contents
  pub on_disk : disk ≡ Some contents
  pub each_open : AllByRecursion (Holds contents) tablets
  pub each_below : AllByRecursion (IsBelow next) tablets

-- A row can be read: the files' bytes are known, and the files of the tablet that holds the row are open over them.
abbrev pub IsReadable : Option Contents → List PlaceView → List Tablet → List ℕ → Type 0
IsReadable disk places tablets row =
    (p : PlaceView) (t : Tablet) → IsHolder row places p
    → tablet_numbered p.tablet tablets ≡ Some t → IsSomeAnd disk (λ m. Holds m t)

-- the end of a tablet's rows, its number and its server
abbrev pub Spot : Type 0
Spot = Option (List ℕ) × (ℕ × ℕ)

abbrev pub spot_of : PlaceView → Spot
spot_of p = (p.end, (p.tablet, p.server))

-- the state below the memtables, for a cluster without a journal
abbrev pub storage_of : {F : Type 0} → (F → Option Contents) → ClusterState F → Storage
storage_of contents state =
    record {
      disk = contents state.files;
      file_limit = state.file_limit;
      next_name = state.next_name;
      places = state.places;
      logged = [];
    }

-- where the tablets are, in the order of their ends
abbrev pub spots_of : {F : Type 0} → ClusterState F → List Spot
spots_of state = map spot_of state.places

-- the edits of a range's rows
abbrev pub edits_in : RowRange → List Edit → List Edit
edits_in range edits = filter (λ edit. has_row range (edited_key edit).row) edits

-- The memtable of the tablet that holds the row would exceed a limit with the edits that are in the tablet's range.
pub record Overfills (places : List PlaceView) (tablets : List Tablet) (row : List ℕ)
    (edits : List Edit) : Type 0 where
  pub place : PlaceView
  pub holder : IsHolder row places place
  pub tablet : Tablet
  pub numbered : tablet_numbered place.tablet tablets ≡ Some tablet
  pub over : ¬ IsWithinLimits (with_edits (memory_of tablet) (edits_in (range_of tablet) edits))

-- ---- invariants of every cluster

-- The place's tablet is the one with its number. It has the rows after `before`, up to the place's end, and the files
-- that the place lists.
pub record IsPlaced (tablets : List Tablet) (before : Option (List ℕ))
    (p : PlaceView) : Type 0 where
  pub tablet : Tablet
  pub numbered : tablet_numbered p.tablet tablets ≡ Some tablet
  pub range : range_of tablet ≡ record { after = before; end = p.end }
  pub names : names_of tablet ≡ p.files

-- each of these places has its tablet; the rows of the first begin after `before`
abbrev pub ArePlaced : List Tablet → Option (List ℕ) → List PlaceView → Type 0
ArePlaced tablets before [] = ⊤
ArePlaced tablets before (p ∷ ps) = IsPlaced tablets before p × ArePlaced tablets p.end ps

-- Each tablet has a place, the numbers are within their limits, and a tablet has at most 64 files, each once, with
-- names from 1 on and below the next one.
pub record IsMatched (file_limit next_name : ℕ) (places : List PlaceView)
    (tablets : List Tablet) : Type 0 where
  pub limit : IsFileLimit file_limit
  pub named_from : 1 ≤ next_name
  pub named_to : next_name ≤ 2 ^ 63
  pub placed : ArePlaced tablets None places
  pub as_many : length tablets ≡ length places
  pub files : AllByRecursion (λ p. AreFiles next_name p.files) places

-- all rows of a place come before the row of the cell after which a scan continues
abbrev pub PrecedesCell : PlaceView → Option Place → Type 0
PrecedesCell p None = ⊥
PrecedesCell p (Some cell) = EndsBefore p.end cell.0

-- the files of each tablet are open, unless all its rows come before that cell's row
abbrev pub AreOpenFrom : Contents → List Tablet → Option Place → List PlaceView → Type 0
AreOpenFrom m tablets after places = AllByRecursion (λ p. ¬ PrecedesCell p after
    → (t : Tablet) → tablet_numbered p.tablet tablets ≡ Some t → Holds m t) places

-- there is only one tablet, of all rows, with no entries and no files
pub record IsFirstTablet (tablets : List Tablet) : Type 0 where
  pub tablet : Tablet
  pub alone : tablets ≡ tablet ∷ []
  pub range : range_of tablet ≡ record { after = None; end = None }
  pub memory : memory_of tablet ≡ []
  pub files : files_of tablet ≡ []

-- ---- a law

-- For the keys of a row the cluster's cells are the cells of the tablet that holds the row.
abbrev pub CellsByTablet : Type 0
CellsByTablet =
    (m : Contents) (limit next : ℕ) (places : List PlaceView)
    (tablets : List Tablet) (row : List ℕ) (p : PlaceView) (t : Tablet)
    → IsTable places → IsMatched limit next places tablets
    → IsHolder row places p → tablet_numbered p.tablet tablets ≡ Some t
    → (key : CellKey) → key.row ≡ row → get (cells_in (Some m) tablets) key ≡ get (cells_at m t) key
