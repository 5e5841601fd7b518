-- Clusters with a journal: its edits lead from the cells in the files to the cells shown.
use Rattle.std.specs.Prelude.{◌≡◌, ◌≢◌, ◌⊎◌, ℕ, ◌+◌, List, [], length, Option, None, Some, IsSome, Result, ⊤}
use Rattle.std.specs.FinMap.{get}
use Rattle.std.specs.List.{AllByRecursion}
use Rattle.cell_key.specs.Cells.{Cells, after_edits}
use Rattle.cell_key.specs.declared.edits.Edit.{Edit}
use Rattle.cell_key.specs.declared.refusals.Refusal.{Refusal}
use Rattle.file_store.specs.Store.{Contents}
use Rattle.metadata_table.specs.Roots.{RootView}
use Rattle.rows.specs.Calls.{View}
use Rattle.tablet.specs.declared.merge_policy.MergePolicy.{MergePolicy}
use Rattle.row_atomic.specs.Seen.{seen_of}
use Rattle.row_atomic.specs.Changes.{Holds, IsEmptied}
use Rattle.row_atomic.specs.Clusters.{ClusterState, storage_of}
use Rattle.row_atomic.specs.Commands.{IsOutcome, OverfillsCluster, cells_shown}
use Rattle.row_atomic.specs.Flushes.{CompactsFull, KeepsShown, MergesMany}
use Rattle.row_atomic.specs.Journals.{HasRoomFor, HasWritten, JournalView}
use Rattle.row_atomic.specs.MergeSteps.{KeepsRoots}
use Rattle.row_atomic.specs.Open.{IsStore, Reopens}
use Rattle.row_atomic.specs.RootSweeps.{SweepsBesideRoot}
use Rattle.row_atomic.specs.Roots.{HasRoot, Rests, StaysOrRests, root_name}
use Rattle.row_atomic.specs.declared.commands.Command.{Command}
use Rattle.row_atomic.specs.declared.commands.Command.TheVariants as command
use Rattle.row_atomic.specs.declared.commands.Outcome.{Outcome}
use Rattle.row_atomic.specs.declared.fill.FlushLimits.{FlushLimits}
use Rattle.row_atomic.specs.declared.recorded.Recorded.{Recorded}

-- ---- the journal leads to the cells shown

-- The files keep a root and cells, and these edits turn those cells into the ones that the cluster shows.
pub record Tracks {F : Type 0} (contents : F → Option Contents) (state : ClusterState F)
    (edits : List Edit) : Type 0 where
  pub root : RootView
  pub base : Cells
  pub has : HasRoot contents root base state
  pub replay : after_edits base edits ≡ cells_shown contents state

-- the edits of the journal, if there is one, have the property
abbrev pub IfWritten : (List Edit → Type 0) → Option JournalView → Type 0
IfWritten Such None = ⊤
IfWritten Such (Some journal) = HasWritten Such journal

-- The journal's edits turn the cells in the files into the cells that the cluster shows.
abbrev pub Follows : {F : Type 0} → (F → Option Contents) → ClusterState F → Option JournalView
    → Type 0
Follows contents state journal = IfWritten (Tracks contents state) journal

-- the journal's bytes that are in the log, and those waiting for it
abbrev pub logged_of : Option JournalView → List ℕ
logged_of None = []
logged_of (Some journal) = journal.logged

abbrev pub waiting_of : Option JournalView → List ℕ
waiting_of None = []
waiting_of (Some journal) = journal.waiting

-- the number of edits, and of bytes, in the journal, and the bytes that the edits take as entries of a memtable
abbrev pub edits_written : Option JournalView → ℕ
edits_written None = 0
edits_written (Some journal) = journal.count

abbrev pub bytes_written : Option JournalView → ℕ
bytes_written None = 0
bytes_written (Some journal) = length journal.logged + length journal.waiting

abbrev pub entry_bytes_written : Option JournalView → ℕ
entry_bytes_written None = 0
entry_bytes_written (Some journal) = journal.entry_bytes

-- ---- rows with a journal

-- if there is a journal, it has no room for these edits
abbrev pub OverfillsJournal : Option JournalView → List Edit → Type 0
OverfillsJournal None edits = ⊥
OverfillsJournal (Some journal) edits = ¬ HasRoomFor journal edits

-- Edits of a row would exceed a limit of the row's memtable, or of the journal.
abbrev pub OverfillsRecorded : {F W : Type 0} → Recorded F W → List ℕ → List Edit → Type 0
OverfillsRecorded rows row edits =
    OverfillsCluster rows.cluster row edits ⊎ OverfillsJournal rows.journal edits

-- The view of the cluster, with the journal's limit and the logged bytes. It holds if the cluster is in order and the
-- journal leads to the cells shown.
abbrev pub seen_recorded : {F W : Type 0} → (F → Option Contents) → View (Recorded F W)
seen_recorded contents = record {
  holds = λ rows. Holds contents rows.cluster × Follows contents rows.cluster rows.journal;
  readable = λ rows row. (seen_of contents).readable rows.cluster row;
  each_readable = λ rows held row. (seen_of contents).each_readable rows.cluster held.0 row;
  cells = λ rows. cells_shown contents rows.cluster;
  overfills = λ rows row edits. OverfillsRecorded rows row edits;
  storage = λ rows. record (storage_of contents rows.cluster) { logged = logged_of rows.journal };
}

-- Edits that fit the journal exceed no limit of a memtable: the journal has everything that the memtables have.
abbrev pub CoversMemtables : {F : Type 0} → ClusterState F → Option JournalView → Type 0
CoversMemtables state journal =
    (row : List ℕ) (edits : List Edit) → OverfillsCluster state row edits
    → OverfillsJournal journal edits

-- the same of a cluster and its journal
abbrev pub FitsMemtables : {F W : Type 0} → Recorded F W → Type 0
FitsMemtables rows = CoversMemtables rows.cluster rows.journal

-- ---- calls that keep this

-- a command that makes no edit
abbrev pub IsOfUpkeep : Command → Type 0
IsOfUpkeep (command.Apply row edits) = ⊥
IsOfUpkeep _ = ⊤

-- The journal still leads to the cells shown after every call of a cluster but an apply.
pub record KeepsFollowing {F : Type 0} (contents : F → Option Contents) (faults : F → ℕ)
    : Type 0 where
  -- commands but a sweep of all files that no tablet has, whatever their outcomes
  pub commands : (request : Command) (result : Outcome) (journal : Option JournalView)
      (old new : ClusterState F) → IsOutcome contents faults request result old new
      → IsOfUpkeep request → request ≢ command.Sweep → Holds contents old
      → Follows contents old journal → Follows contents new journal
  -- a sweep beside the root
  pub root_sweeps : (result : Result ℕ Refusal) (journal : Option JournalView)
      (old new : ClusterState F) → SweepsBesideRoot contents faults result old new
      → Holds contents old → Follows contents old journal → Follows contents new journal
  -- automatic compactions between two requests
  pub flushes : (limits : FlushLimits) (journal : Option JournalView) (old new : ClusterState F)
      → CompactsFull contents faults limits old new → KeepsShown contents faults old new
      → Holds contents old → Follows contents old journal → Follows contents new journal
  pub merges : (policy : MergePolicy) (journal : Option JournalView) (old new : ClusterState F)
      → MergesMany contents faults policy old new → KeepsShown contents faults old new
      → Holds contents old → Follows contents old journal → Follows contents new journal
  -- Whatever keeps each root and the cells shown, keeps it.
  pub roots : (journal : Option JournalView) (old new : ClusterState F)
      → KeepsRoots contents old new → KeepsShown contents faults old new
      → Holds contents old → Follows contents old journal → Follows contents new journal
  -- An accepted checkpoint: from its root both the journal's edits and the empty list of edits lead to the cells shown.
  pub checkpoints : (top floor : ℕ) (journal : Option JournalView) (old new : ClusterState F)
      → Rests contents top floor old new → KeepsShown contents faults old new
      → Holds contents old → Follows contents old journal → Follows contents new journal
  pub rests : (top floor : ℕ) (old new : ClusterState F)
      → Rests contents top floor old new → KeepsShown contents faults old new
      → Holds contents old → Tracks contents new []
  -- A refused checkpoint: from the old root or from the new one the journal's edits lead to the cells shown.
  pub refused : (top floor : ℕ) (journal : Option JournalView) (old new : ClusterState F)
      → StaysOrRests contents top floor old new → KeepsShown contents faults old new
      → Holds contents old → Follows contents old journal → Follows contents new journal

-- A store that was opened from a root shows the cells in its files, without an edit. If all memtables are empty, any
-- journal has everything that they have.
pub record OpensFollowing {F : Type 0} (contents : F → Option Contents) : Type 0 where
  pub reopened : (root : RootView) (cells : Cells) (top floor : ℕ) (state : ClusterState F)
      → Reopens contents root cells top floor state → Tracks contents state []
  pub opened : (m : Contents) (top floor : ℕ) (state : ClusterState F)
      → contents state.files ≡ Some m → IsSome (get m root_name)
      → IsStore m (get m root_name) top floor state → Tracks contents state []
  pub fits : (state : ClusterState F) (journal : JournalView)
      → AllByRecursion IsEmptied state.tablets → CoversMemtables state (Some journal)
