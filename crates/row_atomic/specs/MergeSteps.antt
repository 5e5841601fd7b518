-- Merges of tablets' files in steps: what a step does.
use Rattle.std.specs.Prelude.{◌≡◌, ◌≤◌, ◌<◌, ◌+◌, ◌⊎◌, ℕ, Bool, true, false, List, ◌∷◌, ◌++◌, drop, length, map, nat_lt, take, slice_get, Option, None, Some, IfSome, IsSomeAnd, ⊤}
use Rattle.std.specs.List.{AllByRecursion}
use Rattle.cell_key.specs.Cells.{Cells}
use Rattle.file_store.specs.Store.{Contents, KeepsOthers}
use Rattle.metadata_table.specs.Places.{PlaceView}
use Rattle.metadata_table.specs.Roots.{RootView}
use Rattle.metadata_table.specs.Table.{HasTablet, IsListed, with_files}
use Rattle.sorted_file.specs.File.{IsOpen, name_of}
use Rattle.sorted_file.specs.Grammar.{FitsIn}
use Rattle.sorted_file.specs.Written.{only_written}
use Rattle.sorted_file.specs.declared.file.SortedFile.{SortedFile}
use Rattle.tablet.specs.Compactions.{IsNewFile}
use Rattle.tablet.specs.MergePolicies.{IsMergeCount}
use Rattle.tablet.specs.RunMerges.{IsRunAt, shown_of}
use Rattle.tablet.specs.Views.{files_of, memory_of, names_of, range_of}
use Rattle.tablet.specs.declared.merge_policy.MergePolicy.{MergePolicy}
use Rattle.tablet.specs.declared.tablet.Tablet.{Tablet}
use Rattle.row_atomic.specs.Changes.{KeepsMap, Numbered, Remakes, parts_of}
use Rattle.row_atomic.specs.Clusters.{ClusterState, spots_of}
use Rattle.row_atomic.specs.Flushes.{numbers_of}
use Rattle.row_atomic.specs.MergeStates.{IsUsed, MergeState}
use Rattle.row_atomic.specs.Roots.{HasRoot}

-- the names of the files that a merge reads
abbrev pub sources_of : MergeState → List ℕ
sources_of merge = map name_of merge.files

-- each of these names is listed in the places
abbrev pub AreListed : List ℕ → List PlaceView → Type 0
AreListed names places = AllByRecursion (λ name. IsListed name places) names

-- the files of a merge that is under way, if there is one, are all listed
abbrev pub IsListedMerge : Option MergeState → List PlaceView → Type 0
IsListedMerge None places = ⊤
IsListedMerge (Some merge) places = AreListed (sources_of merge) places

-- A merge's tablet is at this index: it has the rows that it had when the merge was begun, and the merge's files one
-- behind the other.
pub record StandsIn (merge : MergeState) (tablets : List Tablet) (index : ℕ) : Type 0 where
  pub number : merge.tablet ≡ index + 1
  pub tablet : Tablet
  pub there : slice_get tablets index ≡ Some tablet
  pub range : range_of tablet ≡ merge.range
  pub at : ℕ
  pub run : IsRunAt (files_of tablet) (sources_of merge) at

-- A merge can end over these files: it could go on, and its file has all entries to be written.
pub record CanEnd (m : Contents) (limit next : ℕ) (merge : MergeState) : Type 0 where
  pub opened : AllByRecursion (IsOpen m) merge.files
  pub own : IsUsed next merge.name
  pub limited : merge.limit ≡ limit
  pub whole : merge.entries
      ≡ only_written merge.keep_erasures (shown_of merge.range m merge.files)

-- if the files' bytes are known, a merge can end over them
abbrev pub CanEndOver : Option Contents → ℕ → ℕ → MergeState → Type 0
CanEndOver disk limit next merge = IfSome disk (λ m. CanEnd m limit next merge)

-- ---- beginning

-- The merge of the newest `count` files of a tablet, as it was, into a file of the next name.
pub record IsMergeOf (count file_limit next number : ℕ) (merge : MergeState) (t : Tablet)
    : Type 0 where
  pub numbered : merge.tablet ≡ number
  pub range : merge.range ≡ range_of t
  pub files : merge.files ≡ take count (files_of t)
  pub name : merge.name ≡ next
  pub limit : merge.limit ≡ file_limit
  pub keep : merge.keep_erasures ≡ nat_lt count (length (names_of t))

-- A policy has so many of a tablet's newest files merged, and this is their merge.
abbrev pub IsDueMerge : MergePolicy → ℕ → ℕ → ℕ → MergeState → Tablet → Type 0
IsDueMerge policy file_limit next number merge t =
    (count : ℕ) × IsMergeCount policy t count × IsMergeOf count file_limit next number merge t

-- A merge was begun, as a policy says, with the next name.
pub record BeginsMerge {F : Type 0} (contents : F → Option Contents) (policy : MergePolicy)
    (old new : ClusterState F) : Type 0 where
  pub merge : MergeState
  pub due : Numbered (IsDueMerge policy old.file_limit old.next_name merge.tablet merge)
      merge.tablet old.tablets
  pub rest : new ≡ record old {
    files = new.files;
    next_name = old.next_name + 1;
    merge = Some merge;
  }
  pub files : contents new.files ≡ contents old.files

-- ---- going on

-- The merge is the same, further on.
pub record GoesOn (old new : MergeState) : Type 0 where
  pub rest : new ≡ record old { entries = new.entries; next = new.next }

-- a merge that was under way went on, and nothing else changed
pub record ContinuesMerge {F : Type 0} (contents : F → Option Contents)
    (old new : ClusterState F) : Type 0 where
  pub was : MergeState
  pub is : MergeState
  pub was_merge : old.merge ≡ Some was
  pub goes : GoesOn was is
  pub rest : new ≡ record old { files = new.files; merge = Some is }
  pub files : contents new.files ≡ contents old.files

-- ---- the end

-- In the place of a merge's files a tablet has one new file: its other files and its memtable are unchanged. If its files
-- were open and the merge could end, the new one is open, within the limit, and has their merged entries.
pub record IsJoined (merge : MergeState) (next : ℕ) (disk now : Option Contents) (t u : Tablet)
    : Type 0 where
  pub at : ℕ
  pub run : IsRunAt (files_of t) (sources_of merge) at
  pub last : merge.keep_erasures ≡ false
      → at + length (sources_of merge) ≡ length (files_of t)
  pub range : range_of u ≡ range_of t
  pub memory : memory_of u ≡ memory_of t
  pub file : SortedFile
  pub files : files_of u
      ≡ take at (files_of t) ++ file ∷ drop (at + length (sources_of merge)) (files_of t)
  pub named : name_of file ≡ merge.name
  pub put : IfSome disk (λ m. AllByRecursion (IsOpen m) (files_of t)
      → CanEnd m merge.limit next merge → IsSomeAnd now (λ n. IsNewFile n file merge.entries
      × FitsIn merge.limit merge.entries))

-- A merge's file has taken the place of its files in its tablet. No other tablet and no other file has changed.
pub record JoinsFile {F : Type 0} (contents : F → Option Contents) (merge : MergeState)
    (old new : ClusterState F) : Type 0 where
  pub joined : Remakes
      (IsJoined merge old.next_name (contents old.files) (contents new.files))
      merge.tablet old.tablets new.tablets
  pub listed : Numbered (λ t. new.places
      ≡ with_files merge.tablet (names_of t) old.places) merge.tablet new.tablets
  pub rest : new ≡ record old {
    files = new.files;
    places = new.places;
    tablets = new.tablets;
  }
  pub others : KeepsOthers merge.name (contents old.files) (contents new.files)

-- A merge that was under way has ended.
pub record EndsMerge {F : Type 0} (contents : F → Option Contents) (old new : ClusterState F)
    : Type 0 where
  pub was : MergeState
  pub was_merge : old.merge ≡ Some was
  pub is : MergeState
  pub goes : GoesOn was is
  pub joins : JoinsFile contents is (record old { merge = None }) new

-- no root in the files has a file of this name
abbrev pub IsUnrooted : {F : Type 0} → (F → Option Contents) → ℕ → ClusterState F → Type 0
IsUnrooted contents name state =
    (root : RootView) (cells : Cells) → HasRoot contents root cells state
    → ¬ IsListed name root.places

-- A merge's file can take its place in the tablet at an index, and a list has room for the names: the merge's files stand
-- there, its name was used, and no tablet and no root has a file of it.
pub record CanJoin {F : Type 0} (contents : F → Option Contents) (merge : MergeState)
    (index capacity : ℕ) (state : ClusterState F) : Type 0 where
  pub stands : StandsIn merge state.tablets index
  pub known : HasTablet merge.tablet state.places
  pub used : IsUsed state.next_name merge.name
  pub unlisted : ¬ IsListed merge.name state.places
  pub unrooted : IsUnrooted contents merge.name state
  pub room : Numbered (λ t. length (names_of t) + 1 ≤ capacity) merge.tablet state.tablets

-- If a merge could end, tablets that were in order still are, with the same cells. Their ends, numbers and servers, the
-- limit of a file and the next name are unchanged, and no merge is under way.
pub record KeepsAtEnd {F : Type 0} (contents : F → Option Contents) (merge : MergeState)
    (old new : ClusterState F) : Type 0 where
  pub kept : CanEndOver (contents old.files) old.file_limit old.next_name merge
      → KeepsMap contents old new
  pub spots : spots_of new ≡ spots_of old
  pub rest : new ≡ record old {
    files = new.files;
    places = new.places;
    tablets = new.tablets;
  }

-- A merge could not be ended: nothing has changed but its file.
pub record IsUnended {F : Type 0} (old new : ClusterState F) : Type 0 where
  pub rest : new ≡ record old { files = new.files; tablets = new.tablets }
  pub tablets : map parts_of new.tablets ≡ map parts_of old.tablets

-- ---- all steps

-- A merge was given up, or could not be begun. A file may have been left under the name that it had, which is used up.
pub record GivesUp {F : Type 0} (contents : F → Option Contents) (old new : ClusterState F)
    : Type 0 where
  pub name : ℕ
  pub used : (name ≡ old.next_name) ⊎ IsSomeAnd old.merge (λ merge. name ≡ merge.name)
  pub rest : new ≡ record old {
    files = new.files;
    next_name = new.next_name;
    tablets = new.tablets;
    merge = None;
  }
  pub tablets : map parts_of new.tablets ≡ map parts_of old.tablets
  pub later : old.next_name ≤ new.next_name
  pub others : KeepsOthers name (contents old.files) (contents new.files)

-- A policy has so many of a tablet's newest files merged, at least one. The tablet is at the index, in the order of the ends.
pub record IsNextToMerge (policy : MergePolicy) (places : List PlaceView) (tablets : List Tablet)
    (next : ℕ × ℕ) : Type 0 where
  pub within : next.0 < length places
  pub some : 1 ≤ next.1
  pub due : (tablet : ℕ) → slice_get (numbers_of places) next.0 ≡ Some tablet
      → Numbered (λ t. IsMergeCount policy t next.1) tablet tablets

-- A policy has no files of any tablet merged.
abbrev pub HasNoneToMerge : MergePolicy → List PlaceView → List Tablet → Type 0
HasNoneToMerge policy places tablets = AllByRecursion
    (λ n. Numbered (λ t. IsMergeCount policy t 0) n tablets) (numbers_of places)

-- No merge is under way, and none is due.
pub record HasNoMerge {F : Type 0} (policy : MergePolicy) (state : ClusterState F) : Type 0 where
  pub none : state.merge ≡ None
  pub not_due : HasNoneToMerge policy state.places state.tablets

-- One step: a merge was begun, went on, ended or was given up, or none is due. What is answered says whether there may be
-- more to do.
pub data StepsMerge {F : Type 0} (contents : F → Option Contents) (policy : MergePolicy)
    (old : ClusterState F) : Bool → ClusterState F → Type 0 where
  rests : {new : ClusterState F} → HasNoMerge policy old → new ≡ old
      → StepsMerge contents policy old false new
  begins : {new : ClusterState F} → BeginsMerge contents policy old new
      → StepsMerge contents policy old true new
  continues : {new : ClusterState F} → ContinuesMerge contents old new
      → StepsMerge contents policy old true new
  ends : {new : ClusterState F} → EndsMerge contents old new
      → StepsMerge contents policy old true new
  gives_up : {new : ClusterState F} → GivesUp contents old new
      → StepsMerge contents policy old false new

-- Each root and its cells that the files kept, they still keep.
abbrev pub KeepsRoots : {F : Type 0} → (F → Option Contents) → ClusterState F → ClusterState F
    → Type 0
KeepsRoots contents old new =
    (root : RootView) (cells : Cells) → HasRoot contents root cells old
    → HasRoot contents root cells new
