-- A merge of a tablet's files that is under way: what a cluster knows of it between two steps.
use Rattle.std.specs.Prelude.{◌≡◌, ◌<◌, ◌≤◌, ℕ, Bool, List, map, Option, None, Some, IfSome, ⊤}
use Rattle.std.specs.List.{AllByRecursion}
use Rattle.cell_key.specs.Entries.{Entry}
use Rattle.file_store.specs.Store.{Contents}
use Rattle.sorted_file.specs.File.{IsOpen, name_of}
use Rattle.sorted_file.specs.PartialFiles.{entries_below}
use Rattle.sorted_file.specs.Written.{only_written}
use Rattle.sorted_file.specs.declared.file.SortedFile.{SortedFile}
use Rattle.tablet.specs.RunMerges.{shown_of}
use Rattle.tablet.specs.declared.ranges.RowRange.{RowRange}

-- The number of its tablet, the tablet's rows and the files that are merged, as they were when it was begun; the name of
-- the file that it writes, the most bytes of that file, and whether erasures are written; the entries that the file has so
-- far, and the text from which the merge goes on.
pub record MergeState : Type 0 where
  pub tablet : ℕ
  pub range : RowRange
  pub files : List SortedFile
  pub name : ℕ
  pub limit : ℕ
  pub keep_erasures : Bool
  pub entries : List Entry
  pub next : List ℕ

-- the name was used: it is from 1 on, and below the next one
abbrev pub IsUsed : ℕ → ℕ → Type 0
IsUsed next name = (1 ≤ name) × (name < next)

-- A merge can go on over these files: those that it merges are open, no file of a name to come is one of them or its own,
-- and its file has exactly the entries to be written below the text from which it goes on.
pub record CanGoOn (m : Contents) (limit next : ℕ) (merge : MergeState) : Type 0 where
  pub opened : AllByRecursion (IsOpen m) merge.files
  pub named : AllByRecursion (IsUsed next) (map name_of merge.files)
  pub own : IsUsed next merge.name
  pub limited : merge.limit ≡ limit
  pub part : merge.entries ≡ only_written merge.keep_erasures
      (entries_below merge.next (shown_of merge.range m merge.files))

-- a merge that is under way, if there is one, can go on
abbrev pub HoldsMerge : Option Contents → ℕ → ℕ → Option MergeState → Type 0
HoldsMerge disk limit next None = ⊤
HoldsMerge disk limit next (Some merge) = IfSome disk (λ m. CanGoOn m limit next merge)

-- a merge that was under way still is, unchanged, or was given up
abbrev pub MayGiveUp : Option MergeState → Option MergeState → Type 0
MayGiveUp old None = ⊤
MayGiveUp old (Some merge) = old ≡ Some merge
