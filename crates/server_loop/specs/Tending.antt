-- The upkeep of a server between two requests.
use Rattle.std.specs.Prelude.{◌≡◌, ◌≢◌, ◌⊎◌, ◌||◌, ℕ, Bool, true, false, nat_eq, not, Option, None, Some}
use Rattle.file_store.specs.Store.{Contents}
use Rattle.tablet.specs.declared.merge_policy.MergePolicy.{MergePolicy}
use Rattle.tablet.specs.declared.merge_policy.MergePolicy.TheVariants.{AtCount, Levels}
use Rattle.row_atomic.specs.Clusters.{ClusterState}
use Rattle.row_atomic.specs.Flushes.{CompactsFull, KeepsShown, MergesMany}
use Rattle.row_atomic.specs.Memtables.{is_any_full}
use Rattle.row_atomic.specs.MergeSteps.{KeepsRoots, StepsMerge}
use Rattle.si_model.specs.Machine.{State}
use Rattle.server_loop.specs.Server.{Shows, cluster_of, journal_of, tending_of}
use Rattle.server_loop.specs.declared.debt.Debt.{Debt}
use Rattle.server_loop.specs.declared.server.Server.{Server}
use Rattle.server_loop.specs.declared.server.Tending.{Tending}

-- whether a merge is due: a memtable is full, so that a file will be written, or the next file's name has changed since
-- the last merge
abbrev pub is_due : {F : Type 0} → Tending → ClusterState F → Bool
is_due tending state =
    is_any_full tending.flush state.tablets || not (nat_eq state.next_name tending.merged_to)

-- One step of a merge in levels was done, whatever it was. Each root that the files kept, they still keep.
abbrev pub StepsOne : {F : Type 0} → (F → Option Contents) → ClusterState F → ClusterState F
    → Type 0
StepsOne contents old new =
    (more : Bool) × StepsMerge contents Levels old more new × KeepsRoots contents old new

-- If a server has a merge policy, the newest files of each tablet were merged as it says, or the merge was refused, and
-- nothing else was done. By levels a merge goes in steps: at most one was done.
abbrev pub Merges : {F : Type 0} → (F → Option Contents) → (F → ℕ) → Option MergePolicy
    → ClusterState F → ClusterState F → Type 0
Merges contents faults None old new = new ≡ old
Merges contents faults (Some (AtCount count)) old new =
    MergesMany contents faults (AtCount count) old new
Merges contents faults (Some Levels) old new = (new ≡ old) ⊎ StepsOne contents old new

-- the same if a merge was due; otherwise nothing was done
abbrev pub MergesWhere : {F : Type 0} → Bool → (F → Option Contents) → (F → ℕ)
    → Option MergePolicy → ClusterState F → ClusterState F → Type 0
MergesWhere true contents faults merge old new = Merges contents faults merge old new
MergesWhere false contents faults merge old new = new ≡ old

-- no bytes are owed, and none were seen in a memtable
abbrev pub no_debt : Debt
no_debt = record { owed = 0; filled = 0; next_name = 0 }

-- if a merge was due, the name of the next file afterwards is noted
abbrev pub merged_to : Bool → Tending → ℕ → ℕ
merged_to true tending name = name
merged_to false tending name = tending.merged_to

-- Limits and policy are the same. The name of the next file was noted if a merge was due; by levels, it may be noted once
-- there is nothing more to do.
pub record IsNoted (due : Bool) (next : ℕ) (old new : Tending) : Type 0 where
  pub flush : new.flush ≡ old.flush
  pub merge : new.merge ≡ old.merge
  pub noted : old.merge ≢ Some Levels → new.merged_to ≡ merged_to due old next

-- Minor compactions of exactly the tablets whose memtables were full, by the server's limits, were done one after the
-- other, or refused; and then merges, if they were due. The cells are unchanged, and so are the tablets' places, the
-- sessions, the cleaners, the collectors and the oracle. No fault of a device was forgotten.
pub record IsTended {F M W : Type 0} (contents : F → Option Contents) (faults : F → ℕ)
    (old new : Server F M W) : Type 0 where
  pub compacted : ClusterState F
  pub compacts : CompactsFull contents faults (tending_of old).flush (cluster_of old) compacted
  pub merges : MergesWhere (is_due (tending_of old) (cluster_of old)) contents faults
      (tending_of old).merge compacted (cluster_of new)
  pub keeps : KeepsShown contents faults (cluster_of old) (cluster_of new)
  pub shown : (st : State) → Shows contents old st → Shows contents new st
  pub sessions : new.clients ≡ old.clients
  pub cleaners : new.cleaners ≡ old.cleaners
  pub collectors : new.collectors ≡ old.collectors
  pub oracle : new.oracle ≡ old.oracle
  pub journal : journal_of new ≡ journal_of old
  pub tending : IsNoted (is_due (tending_of old) (cluster_of old)) (cluster_of new).next_name
      (tending_of old) (tending_of new)
