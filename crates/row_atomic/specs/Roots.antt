-- Roots: the state of a cluster kept in its files, and the checkpoint that writes it.
use Rattle.std.specs.Prelude.{◌≡◌, ◌≤◌, ◌⊎◌, ℕ, List, [], ◌∷◌, length, replicate, Option, None, Some, IfSome}
use Rattle.std.specs.List.{AllByRecursion}
use Rattle.std.specs.FinMap.{get}
use Rattle.cell_key.specs.Cells.{Cells}
use Rattle.cell_key.specs.declared.refusals.Refusal.{Refusal}
use Rattle.cell_key.specs.declared.refusals.Refusal.TheVariants as refused
use Rattle.commit_log.specs.Crc32.{crc32}
use Rattle.file_store.specs.Store.{Contents, KeepsOthers, with_file}
use Rattle.metadata_table.specs.Places.{PlaceView}
use Rattle.metadata_table.specs.Roots.{IsRoot, IsRootIn, RootView, file_names, root_bytes}
use Rattle.metadata_table.specs.declared.root.format.RootFormat.TheVariants.{Two}
use Rattle.tablet.specs.Views.{Holds as HoldsAt}
use Rattle.tablet.specs.declared.tablet.Tablet.{Tablet}
use Rattle.tablet.specs.declared.merge_policy.MergePolicy.{MergePolicy}
use Rattle.row_atomic.specs.Changes.{Holds, IsEmptied, ListsAll, Numbered}
use Rattle.row_atomic.specs.Clusters.{ArePlaced, ClusterState, cells_in, storage_of}
use Rattle.row_atomic.specs.Commands.{IsOutcome, TakesFiles, TellsFaults, cells_shown}
use Rattle.row_atomic.specs.Flushes.{CompactsFull, MergesMany, numbers_of}
use Rattle.row_atomic.specs.declared.commands.Command.{Command}
use Rattle.row_atomic.specs.declared.commands.Command.TheVariants as command
use Rattle.row_atomic.specs.declared.commands.Outcome.{Outcome}
use Rattle.row_atomic.specs.declared.commands.Outcome.TheVariants as outcome
use Rattle.row_atomic.specs.declared.fill.FlushLimits.{FlushLimits}

-- the name of the root file
abbrev pub root_name : ℕ
root_name = 0

-- the content of a cluster's root: two stamps, the next file's name and the places
abbrev pub root_at : {F : Type 0} → ℕ → ℕ → ClusterState F → RootView
root_at top floor state =
    record { top = top; floor = floor; next_name = state.next_name; places = state.places }

-- The checksum of a root: the CRC-32 of its bytes in format 2, with the length of each file written as 0.
unfoldable pub root_sum : RootView → ℕ
root_sum root = crc32 (root_bytes Two root (replicate (length (file_names root.places)) 0))

-- ---- files that keep cells

-- These tablets have the rows and the files of the places, each at the index of its number less 1. Their memtables are
-- empty, and their files are open.
pub record AreOpened (m : Contents) (places : List PlaceView) (tablets : List Tablet) : Type 0 where
  pub placed : ArePlaced tablets None places
  pub as_many : length tablets ≡ length places
  pub emptied : AllByRecursion IsEmptied tablets
  pub each_open : AllByRecursion (HoldsAt m) tablets

-- Each existing file has the length listed for its name, as far as there are lengths.
abbrev pub AreMeasured : Contents → List ℕ → List ℕ → Type 0
AreMeasured m [] lengths = Unit {0}
AreMeasured m (name ∷ names) [] = Unit {0}
AreMeasured m (name ∷ names) (n ∷ lengths) =
    IfSome (get m name) (λ image. length image ≡ n) × AreMeasured m names lengths

-- The root file exists and has this root, its lengths are those of the files, and the tablets opened from it show these
-- cells.
pub record KeepsCells (m : Contents) (root : RootView) (cells : Cells) : Type 0 where
  pub image : List ℕ
  pub there : get m root_name ≡ Some image
  pub form : IsRoot root image
  pub measured : AreMeasured m (file_names root.places) form.lengths
  pub tablets : List Tablet
  pub opened : AreOpened m root.places tablets
  pub shows : cells_in (Some m) tablets ≡ cells

-- ---- a checkpoint

-- Minor compactions of these tablets were done in order, until one was refused.
pub data FlushesEach {F : Type 0} (contents : F → Option Contents) (faults : F → ℕ)
    : ClusterState F → List ℕ → Outcome → ClusterState F → Type 0 where
  flushes_none : {now : ClusterState F} → FlushesEach contents faults now [] outcome.Done now
  flushes_one : {old now new : ClusterState F} {n : ℕ} {ns : List ℕ} {result : Outcome}
      → IsOutcome contents faults (command.Minor n) outcome.Done old now
      → FlushesEach contents faults now ns result new
      → FlushesEach contents faults old (n ∷ ns) result new
  refuses_one : {old new : ClusterState F} {n : ℕ} {ns : List ℕ} (refusal : Refusal)
      → IsOutcome contents faults (command.Minor n) (outcome.Refused refusal) old new
      → FlushesEach contents faults old (n ∷ ns) (outcome.Refused refusal) new

-- The root file with these stamps was put in format 2; or a device failed or memory was refused, and all files are
-- unchanged; or a device failed, the root's bytes are unspecified and all other files are unchanged. Nothing else
-- changed.
abbrev pub PutsRoot : {F : Type 0} → (F → Option Contents) → ℕ → ℕ → ClusterState F → Outcome
    → F → Type 0
PutsRoot contents top floor old outcome.Done files =
    (image : List ℕ) × (lengths : List ℕ) × IsRootIn Two (root_at top floor old) lengths image
    × (contents files ≡ with_file root_name image (contents old.files))
PutsRoot contents top floor old (outcome.Refused refusal) files =
    ((refusal ≡ refused.Device) ⊎ (refusal ≡ refused.NoMemory))
    × ((contents files ≡ contents old.files)
    ⊎ ((refusal ≡ refused.Device) × KeepsOthers root_name (contents old.files) (contents files)))
PutsRoot contents top floor old _ files = ⊥

-- A checkpoint flushed every tablet and put the root last, or was refused on the way.
pub data Checkpoints {F : Type 0} (contents : F → Option Contents) (faults : F → ℕ) (top floor : ℕ)
    (old : ClusterState F) : Outcome → ClusterState F → Type 0 where
  unflushed : (refusal : Refusal) {new : ClusterState F}
      → FlushesEach contents faults old (numbers_of old.places) (outcome.Refused refusal) new
      → Checkpoints contents faults top floor old (outcome.Refused refusal) new
  flushed : (mid : ClusterState F) (result : Outcome) (files : F)
      → FlushesEach contents faults old (numbers_of old.places) outcome.Done mid
      → PutsRoot contents top floor mid result files
      → TellsFaults faults result mid (record mid { files = files })
      → Checkpoints contents faults top floor old result (record mid { files = files })

-- each tablet that has a place has an empty memtable
abbrev pub AreFlushed : {F : Type 0} → ClusterState F → Type 0
AreFlushed state =
    AllByRecursion (λ n. Numbered IsEmptied n state.tablets) (numbers_of state.places)

-- ---- roots in the files

-- The files' bytes are known and keep a root and cells. New files can't overwrite the root's files: its next name is
-- not above the cluster's.
pub record HasRoot {F : Type 0} (contents : F → Option Contents) (root : RootView) (cells : Cells)
    (state : ClusterState F) : Type 0 where
  pub kept : Contents
  pub on_disk : contents state.files ≡ Some kept
  pub keeps : KeepsCells kept root cells
  pub below : root.next_name ≤ state.next_name

-- The same, and the tablets have every file that the root lists, so that no sweep removes one.
pub record KeepsRoot {F : Type 0} (contents : F → Option Contents) (root : RootView) (cells : Cells)
    (state : ClusterState F) : Type 0 where
  pub has : HasRoot contents root cells state
  pub lists : ListsAll root.places state.places

-- Its files keep the cells that the cluster showed, in a root with these stamps.
abbrev pub Rests : {F : Type 0} → (F → Option Contents) → ℕ → ℕ → ClusterState F → ClusterState F
    → Type 0
Rests contents top floor old new =
    Holds contents old → KeepsRoot contents (root_at top floor new) (cells_shown contents old) new

-- ---- how long a root is kept

-- A command leaves a root and its cells in the files, whatever its outcome. A sweep does if the tablets have every file
-- that the root lists. They still have them afterwards, unless a compaction replaced some.
abbrev pub RootStays : {F : Type 0} → (F → Option Contents) → (F → ℕ) → Type 0
RootStays {F} contents faults =
    (request : Command) (result : Outcome) (root : RootView) (cells : Cells)
    (old new : ClusterState F) → IsOutcome contents faults request result old new
    → ((request ≡ command.Sweep → ListsAll root.places old.places)
    → HasRoot contents root cells old → HasRoot contents root cells new)
    × (¬ TakesFiles request result
    → KeepsRoot contents root cells old → KeepsRoot contents root cells new)

-- a change leaves a root and its cells in the files, and the tablets keep the root's files
abbrev pub StayRooted : {F : Type 0} → (F → Option Contents) → RootView → Cells → ClusterState F
    → ClusterState F → Type 0
StayRooted contents root cells old new =
    (HasRoot contents root cells old → HasRoot contents root cells new)
    × (KeepsRoot contents root cells old → KeepsRoot contents root cells new)

-- All files are unchanged, or, if the memtables are empty, they keep the cells that the cluster shows.
abbrev pub PutsRootOrNone : {F : Type 0} → (F → Option Contents) → ℕ → ℕ → ClusterState F
    → ClusterState F → Type 0
PutsRootOrNone contents top floor old new =
    (contents new.files ≡ contents old.files)
    ⊎ (AreFlushed old → Rests contents top floor old new)

-- The files keep each root that they kept before, or the cells that the cluster showed.
abbrev pub StaysOrRests : {F : Type 0} → (F → Option Contents) → ℕ → ℕ → ClusterState F
    → ClusterState F → Type 0
StaysOrRests contents top floor old new =
    ((root : RootView) (cells : Cells) → StayRooted contents root cells old new)
    ⊎ Rests contents top floor old new

-- whether a root is kept does not depend on the memtables
abbrev pub RootIsStored : {F : Type 0} → (F → Option Contents) → Type 0
RootIsStored {F} contents =
    (root : RootView) (cells : Cells) (old new : ClusterState F)
    → storage_of contents new ≡ storage_of contents old → StayRooted contents root cells old new

-- Minor compactions of many tablets, done or refused, keep a root and its cells.
abbrev pub RootOutlastsFlushes : {F : Type 0} → (F → Option Contents) → (F → ℕ) → Type 0
RootOutlastsFlushes {F} contents faults =
    (root : RootView) (cells : Cells) (old new : ClusterState F)
    → ((limits : FlushLimits) → CompactsFull contents faults limits old new
    → StayRooted contents root cells old new)
    × ((numbers : List ℕ) (result : Outcome) → FlushesEach contents faults old numbers result new
    → StayRooted contents root cells old new)

-- Merges of many tablets keep a root and its cells in the files. The tablets may then lack files of the root.
abbrev pub RootOutlastsMerges : {F : Type 0} → (F → Option Contents) → (F → ℕ) → Type 0
RootOutlastsMerges {F} contents faults =
    (root : RootView) (cells : Cells) (old new : ClusterState F) (policy : MergePolicy)
    → MergesMany contents faults policy old new
    → HasRoot contents root cells old → HasRoot contents root cells new
