-- Results of reads.
use Rattle.std.specs.Prelude.{◌≡◌, ℕ, ◌≤◌, ◌<◌, length, List, [], ◌∷◌, Option, Some, None, if◌then◌else◌, map, option_map, IfSome, IsTrue, Result, IsErrOf}
use Rattle.std.specs.FinMap.{get}
use Rattle.std.specs.List.{AllByRecursion}
use Rattle.std.specs.Ordering.{is_le}
use Rattle.cell_key.specs.Names.{IsRow, IsFamily}
use Rattle.cell_key.specs.Keys.{byte_cmp, text, IsStored}
use Rattle.cell_key.specs.Cells.{IsNewest, version}
use Rattle.cell_key.specs.Entries.{Entry, cells_of, entries_from, first_naming, key_of_text, value_of}
use Rattle.cell_key.specs.Places.{Place, place_of}
use Rattle.cell_key.specs.declared.keys.CellKey.{CellKey}
use Rattle.cell_key.specs.declared.keys.Qualifier.{Qualifier}
use Rattle.cell_key.specs.declared.keys.Qualifier.TheVariants.{Write}
use Rattle.cell_key.specs.declared.refusals.Refusal.{Refusal}
use Rattle.cell_key.specs.declared.refusals.Refusal.TheVariants.{Damaged}
use Rattle.file_store.specs.Store.{Contents}
use Rattle.sorted_file.specs.Newest.{at_stamp, IsAfterStamp}
use Rattle.sorted_file.specs.File.{IsOpen, listed}
use Rattle.sorted_file.specs.Source.{ReadsFiles}
use Rattle.sorted_file.specs.declared.file.SortedFile.{SortedFile}
use Rattle.tablet.specs.Ranges.{has_row, lower_fence}
use Rattle.tablet.specs.Views.{cells_at, files_of, memory_of, range_of, Holds}
use Rattle.tablet.specs.declared.ranges.RowRange.{RowRange}
use Rattle.tablet.specs.declared.tablet.Tablet.{Tablet}

-- the first value of entries, with its text
abbrev pub first_value : List Entry → Option (List ℕ × List ℕ)
first_value [] = None
first_value ((name, None) ∷ es) = first_value es
first_value ((name, Some value) ∷ es) = Some (name, value)

-- a value within the limit
abbrev pub IsValue : List ℕ → Type 0
IsValue bytes = length bytes ≤ 65536

-- the entries left of `es` include all whose texts are at or above `past`
abbrev pub HasLeft : List ℕ → List Entry → List Entry → Type 0
HasLeft past es left = entries_from past left ≡ entries_from past es

-- a text with a value, whose text is a key's of this place
pub record IsOfPlace (found : Option (List ℕ × List ℕ)) (place : Place) : Type 0 where
  pub key : CellKey
  pub value : List ℕ
  pub stored : IsStored key
  pub at : place_of key ≡ place
  pub is : found ≡ Some (text key, value)

-- the place of such a text, or `None` without one
abbrev pub NamesPlace : Option (List ℕ × List ℕ) → Option Place → Type 0
NamesPlace found None = found ≡ None
NamesPlace found (Some place) = IsOfPlace found place

-- the files' merged list has no value of a column of this kind in this row at these stamps
abbrev pub HaveNoValue : List ℕ → Qualifier → ℕ → ℕ → List SortedFile → Type 0
HaveNoValue row qualifier lo hi files =
    (m : Contents) → AllByRecursion (IsOpen m) files → (key : CellKey) → IsStored key
    → key.row ≡ row → key.qualifier ≡ qualifier → lo ≤ key.stamp → key.stamp ≤ hi
    → value_of (first_naming (map (listed m) files) (text key)) ≡ None

-- the stamp is after the version's, or at least `lo` without a version
abbrev pub IsLater : ℕ → ℕ → Option (ℕ × List ℕ) → Type 0
IsLater s lo None = lo ≤ s
IsLater s lo (Some found) = found.0 < s

-- The lists show no value of the key's column at a stamp after the one found, up to the key's.
abbrev pub HasNoLater : CellKey → ℕ → Option ℕ → List (List Entry) → Type 0
HasNoLater key lo found lists =
    (s : ℕ) → IsAfterStamp s lo found → s ≤ key.stamp → IsStored (at_stamp key s)
    → value_of (first_naming lists (text (at_stamp key s))) ≡ None

-- The version found in files is the newest one from lo to the key's stamp, if it has a value and the memtable has none
-- there; without a value there is no version at its stamp. The files have no later one.
pub record IsNextVersion
    (m : Contents) (tablet : Tablet) (key : CellKey) (lo : ℕ) (found : Option (ℕ × Option (List ℕ)))
    : Type 0 where
  pub later : HasNoLater key lo (option_map (λ next. next.0) found)
      (map (listed m) (files_of tablet))
  pub here : IfSome found (λ next. IsTrue (has_row (range_of tablet) key.row)
      → get (cells_of (memory_of tablet)) (at_stamp key next.0) ≡ None
      → IsNewest (cells_at m tablet) (at_stamp key) next.0 next.0
      (option_map (λ value. (next.0, value)) next.1))

-- the values of entries, each with the stamp of its key
abbrev pub stamped_values : List Entry → List (ℕ × List ℕ)
stamped_values [] = []
stamped_values ((name, None) ∷ es) = stamped_values es
stamped_values ((name, Some value) ∷ es) = ((key_of_text name).stamp, value) ∷ stamped_values es

-- the later of two texts
abbrev pub later : List ℕ → List ℕ → List ℕ
later a b = if is_le (byte_cmp a b) then b else a

-- a bound above the texts of a place and below those of later places; without a place, below all texts
abbrev pub past_place : Option Place → List ℕ
past_place None = []
past_place (Some place) = text (version place.0 place.1 Write 0)

-- the text from which the cells of a range after a place are searched
abbrev pub start_of : RowRange → Option Place → List ℕ
start_of range after = later (lower_fence range) (past_place after)

-- a place within the limits
pub record IsStoredPlace (place : Place) : Type 0 where
  pub row : IsRow place.0
  pub family : IsFamily place.1

abbrev pub IsPlaceOrNone : Option Place → Type 0
IsPlaceOrNone None = Unit {0}
IsPlaceOrNone (Some place) = IsStoredPlace place

-- `found` is the place of the first value of the entries after a place
abbrev pub IsNextIn : List Entry → Option Place → Option Place → Type 0
IsNextIn es after = NamesPlace (first_value (entries_from (past_place after) es))

-- A read of a tablet changes no file; it answers `Damaged` only if the tablet doesn't hold.
pub record ReadsTablet {F T : Type 0} (contents : F → Option Contents) (faults : F → ℕ)
    (tablet : Tablet) (old new : F) (result : Result T Refusal) : Type 0 where
  pub damaged : IsErrOf result Damaged → IfSome (contents old) (λ m. ¬ Holds m tablet)
  pub files : ReadsFiles contents faults old new result
