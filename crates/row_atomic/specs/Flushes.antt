-- Automatic compactions: of each tablet whose memtable is full, and of the files of each that a merge policy takes.
use Rattle.std.specs.Prelude.{◌≡◌, ◌≤◌, ◌⊎◌, ℕ, Bool, false, List, [], ◌∷◌, map, filter, Option, None, Some}
use Rattle.file_store.specs.Store.{Contents}
use Rattle.metadata_table.specs.Places.{PlaceView}
use Rattle.tablet.specs.MergePolicies.{IsMergeCount}
use Rattle.tablet.specs.declared.merge_policy.MergePolicy.{MergePolicy}
use Rattle.tablet.specs.declared.tablet.Tablet.{Tablet}
use Rattle.row_atomic.specs.Changes.{KeepsMap, Numbered}
use Rattle.row_atomic.specs.Clusters.{ClusterState, spots_of, tablet_numbered}
use Rattle.row_atomic.specs.Commands.{AnswersAll, IsOutcome}
use Rattle.row_atomic.specs.Memtables.{is_full}
use Rattle.row_atomic.specs.declared.commands.Command.TheVariants as command
use Rattle.row_atomic.specs.declared.commands.Outcome.{Outcome}
use Rattle.row_atomic.specs.declared.fill.FlushLimits.{FlushLimits}

-- whether there is a tablet and its memtable is full
abbrev pub has_full : FlushLimits → Option Tablet → Bool
has_full limits None = false
has_full limits (Some t) = is_full limits t

-- the numbers of tablets, in the order of their ends
abbrev pub numbers_of : List PlaceView → List ℕ
numbers_of places = map (λ p. p.tablet) places

-- the numbers of the tablets whose memtables are full
abbrev pub numbers_full : {F : Type 0} → FlushLimits → ClusterState F → List ℕ
numbers_full limits state =
    filter (λ n. has_full limits (tablet_numbered n state.tablets)) (numbers_of state.places)

-- Exactly these tablets had minor compactions, in order, done or refused. Their outcomes are not reported.
abbrev pub CompactsFull : {F : Type 0}
    → (F → Option Contents) → (F → ℕ) → FlushLimits → ClusterState F → ClusterState F → Type 0
CompactsFull contents faults limits old new =
    (outcomes : List Outcome)
    × AnswersAll contents faults old (map command.Minor (numbers_full limits old)) outcomes new

-- So many of a tablet's newest files were merged, or the merge was refused; with 0 nothing was done. The outcome is not
-- reported.
abbrev pub MergesNewest : {F : Type 0}
    → (F → Option Contents) → (F → ℕ) → ℕ → ℕ → ClusterState F → ClusterState F → Type 0
MergesNewest contents faults n count old new =
    ((count ≡ 0) × (new ≡ old))
    ⊎ ((1 ≤ count)
    × ((outcome : Outcome) × IsOutcome contents faults (command.Merge n count) outcome old new))

-- In each of these tablets, in order, the newest files were merged as a policy says.
abbrev pub MergesEach : {F : Type 0} → (F → Option Contents) → (F → ℕ) → MergePolicy
    → ClusterState F → List ℕ → ClusterState F → Type 0
MergesEach contents faults policy old [] new = new ≡ old
MergesEach {F} contents faults policy old (n ∷ ns) new =
    (next : ClusterState F) × (count : ℕ)
    × Numbered (λ t. IsMergeCount policy t count) n old.tablets
    × MergesNewest contents faults n count old next
    × MergesEach contents faults policy next ns new

-- the same in all tablets, in the order of their ends
abbrev pub MergesMany : {F : Type 0} → (F → Option Contents) → (F → ℕ) → MergePolicy
    → ClusterState F → ClusterState F → Type 0
MergesMany contents faults policy old new =
    MergesEach contents faults policy old (numbers_of old.places) new

-- Tablets that were in order still are, with the same cells. Their ends, numbers and servers and the limit of a file
-- are unchanged, and no fault was forgotten.
pub record KeepsShown {F : Type 0} (contents : F → Option Contents) (faults : F → ℕ)
    (old new : ClusterState F) : Type 0 where
  pub kept : KeepsMap contents old new
  pub spots : spots_of new ≡ spots_of old
  pub limit : new.file_limit ≡ old.file_limit
  pub later : faults old.files ≤ faults new.files
