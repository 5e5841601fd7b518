-- Merges of a run of a tablet's files, in steps.
use Rattle.std.specs.Prelude.{◌≡◌, ◌≢◌, ◌≤◌, ◌+◌, ℕ, Bool, false, List, ◌∷◌, ◌++◌, Option, IfSome, IsSomeAnd, drop, length, map, take}
use Rattle.std.specs.List.{AllByRecursion}
use Rattle.cell_key.specs.Entries.{Entry, merged}
use Rattle.cell_key.specs.declared.refusals.Refusal.{Refusal}
use Rattle.cell_key.specs.declared.refusals.Refusal.TheVariants as refused
use Rattle.file_store.specs.Store.{Contents}
use Rattle.sorted_file.specs.File.{IsOpen, listed, name_of}
use Rattle.sorted_file.specs.Grammar.{FitsIn}
use Rattle.sorted_file.specs.PartialFiles.{IsUnderWay, IsWhole, limit_of, target_of}
use Rattle.sorted_file.specs.Source.{IsFaultRefusal}
use Rattle.sorted_file.specs.Written.{only_written}
use Rattle.sorted_file.specs.declared.file.SortedFile.{SortedFile}
use Rattle.sorted_file.specs.declared.partial_file.PartialFile.{PartialFile}
use Rattle.tablet.specs.Compactions.{IsNewFile}
use Rattle.tablet.specs.Ranges.{seen}
use Rattle.tablet.specs.Views.{Holds, cells_at, files_of, memory_of, names_of, range_of}
use Rattle.tablet.specs.declared.ranges.RowRange.{RowRange}
use Rattle.tablet.specs.declared.run_merge.RunMerge.{RunMerge}
use Rattle.tablet.specs.declared.tablet.Tablet.{Tablet}

-- the names of the files that it merges, the newest first, and the file that it writes
abbrev pub sources_of : {W : Type 0} → RunMerge W → List ℕ
sources_of merge = merge.names.items

abbrev pub written_to : {W : Type 0} → RunMerge W → PartialFile W
written_to merge = merge.file

-- files whose names begin with these
abbrev pub BeginsWith : List SortedFile → List ℕ → Type 0
BeginsWith files names = (rest : List ℕ) × (map name_of files ≡ names ++ rest)

-- the files from a place on have these names
pub record IsRunAt (files : List SortedFile) (names : List ℕ) (at : ℕ) : Type 0 where
  pub within : at ≤ length files
  pub named : BeginsWith (drop at files) names

-- as many files as there are names, from a place on
abbrev pub run_at : List SortedFile → List ℕ → ℕ → List SortedFile
run_at files names at = take (length names) (drop at files)

-- the entries of a range that these files mean together
abbrev pub shown_of : RowRange → Contents → List SortedFile → List Entry
shown_of range m run = merged (map (seen range) (map (listed m) run))

-- whether it keeps erasures
abbrev pub keeps_of : {W : Type 0} → RunMerge W → Bool
keeps_of merge = merge.keep_erasures

-- A merge's file can stand in the place of its files: they are there, and older files stay only if it keeps erasures.
pub record CanStandAt {W : Type 0} (files : List SortedFile) (merge : RunMerge W) (at : ℕ)
    : Type 0 where
  pub run : IsRunAt files (sources_of merge) at
  pub some : 1 ≤ length (sources_of merge)
  pub last : keeps_of merge ≡ false → at + length (sources_of merge) ≡ length files

-- The file has the merge's entries so far, of those that the range sees of its files, wherever they stand.
pub record IsPartOf {W : Type 0} (range : RowRange) (m : Contents) (files : List SortedFile)
    (merge : RunMerge W) : Type 0 where
  pub at : ℕ
  pub run : IsRunAt files (sources_of merge) at
  pub under_way : IsUnderWay (shown_of range m (run_at files (sources_of merge) at))
      (written_to merge)

-- The file has all entries of the merge.
pub record IsAllOf {W : Type 0} (range : RowRange) (m : Contents) (files : List SortedFile)
    (merge : RunMerge W) : Type 0 where
  pub at : ℕ
  pub run : IsRunAt files (sources_of merge) at
  pub whole : IsWhole (shown_of range m (run_at files (sources_of merge) at)) (written_to merge)

-- the entries that a merge of this run writes
abbrev pub merged_of : {W : Type 0} → RowRange → Contents → List SortedFile → RunMerge W → ℕ
    → List Entry
merged_of range m files merge at =
    only_written (keeps_of merge) (shown_of range m (run_at files (sources_of merge) at))

-- no file of the tablet has this name
abbrev pub LacksName : ℕ → Tablet → Type 0
LacksName name t = AllByRecursion (λ other. other ≢ name) (names_of t)

-- A merge was ended: a new file stands in the place of its files, and the others stay. If these files were open and it
-- had all their entries, the new file is open, within its limit, and has them.
pub record ReplacesRun {W : Type 0} (disk now : Option Contents) (merge : RunMerge W)
    (old new : Tablet) : Type 0 where
  pub at : ℕ
  pub stands : CanStandAt (files_of old) merge at
  pub file : SortedFile
  pub files : files_of new
      ≡ take at (files_of old) ++ file ∷ drop (at + length (sources_of merge)) (files_of old)
  pub names : names_of new ≡ take at (names_of old) ++ target_of (written_to merge)
      ∷ drop (at + length (sources_of merge)) (names_of old)
  pub memory : memory_of new ≡ memory_of old
  pub put : IfSome disk (λ m. AllByRecursion (IsOpen m) (files_of old)
      → IsAllOf (range_of old) m (files_of old) merge → IsSomeAnd now (λ n.
      IsNewFile n file (merged_of (range_of old) m (files_of old) merge at)
      × FitsIn (limit_of (written_to merge)) (merged_of (range_of old) m (files_of old) merge at)))

-- If a tablet's files were open and a merge had all its entries, they still are after its end, and the cells are
-- unchanged. The merge's name was not the tablet's.
abbrev pub KeepsCells : {W : Type 0} → Option Contents → Option Contents → RunMerge W → Tablet
    → Tablet → Type 0
KeepsCells disk now merge old new =
    IfSome disk (λ m. Holds m old → LacksName (target_of (written_to merge)) old
    → IsAllOf (range_of old) m (files_of old) merge
    → IsSomeAnd now (λ n. Holds n new × (cells_at n new ≡ cells_at m old)))

-- the refusals of beginning a merge, and of ending it
abbrev pub IsBeginRefusal : Refusal → Type 0
IsBeginRefusal refused.BadCount = Unit {0}
IsBeginRefusal refused.Exhausted = Unit {0}
IsBeginRefusal refusal = IsFaultRefusal refusal

abbrev pub IsEndRefusal : Refusal → Type 0
IsEndRefusal refused.BadCount = Unit {0}
IsEndRefusal refused.FileTooLarge = Unit {0}
IsEndRefusal refusal = IsFaultRefusal refusal

-- ---- a law

-- Open files with the same names mean the same entries together.
abbrev pub RunsAlike : Type 0
RunsAlike =
    (range : RowRange) (m : Contents) (run other : List SortedFile)
    → AllByRecursion (IsOpen m) run → AllByRecursion (IsOpen m) other
    → map name_of run ≡ map name_of other → shown_of range m run ≡ shown_of range m other
