-- Commands: their answers, and their effects on the cell map, on tablets and files, and on the room in memory. Begin at
-- the end, with `IsOutcome`: each of its fields has a heading in this file, in the same order.
use Rattle.std.specs.Prelude.{◌≡◌, ◌≢◌, ◌<◌, ◌≤◌, ◌+◌, ◌^◌, ◌↔◌, ◌⊎◌, ℕ, List, [], ◌∷◌, Option, Result, Ok, Err, length, option_map, ⊤}
use Rattle.std.specs.List.{AllByRecursion}
use Rattle.cell_key.specs.Cells.{Cells, IsEditOf, IsNewest, after_edits, version}
use Rattle.cell_key.specs.Faults.{HasRisen}
use Rattle.cell_key.specs.Places.{IsNextCell}
use Rattle.cell_key.specs.Versions.{stamped}
use Rattle.cell_key.specs.declared.edits.Edit.{Edit}
use Rattle.cell_key.specs.declared.refusals.Refusal.{Refusal}
use Rattle.cell_key.specs.declared.refusals.Refusal.TheVariants as refused
use Rattle.file_store.specs.Store.{Contents}
use Rattle.metadata_table.specs.Table.{BarsSplit, HasTablet, most_servers}
use Rattle.tablet.specs.Compactions.{ReadsTooMuch}
use Rattle.tablet.specs.Views.{UsesName}
use Rattle.row_atomic.specs.Changes.{CannotRead, ComesOfWriting, ComesTo, FitsLimit, Holds, IsAsBefore, IsCompacted, IsCut, IsEmptied, IsFullTablet, IsHalved, IsMoveRefusal, IsNumberedRefusal, IsOn, IsOutOfOrder, IsSplitRefusal, IsTooLarge, IsUncached, IsUndone, ListsAll, MayBeFlushed, MayHolderBeFlushed, MeetsBadCount, MeetsDamage, MeetsFull, Numbered, OfHolder, WritesNone}
use Rattle.row_atomic.specs.Clusters.{ClusterState, Overfills, cells_in, spots_of, storage_of}
use Rattle.row_atomic.specs.Compactions as compaction
use Rattle.rows.specs.Refusals.{IsApplyRefusal, IsReadRefusal}
use Rattle.rows.specs.Room.{TakesNoRoom, TakesRoomOf}
use Rattle.row_atomic.specs.Sweeps.{IsSwept, IsSweptInPart, is_kept}
use Rattle.tablet.specs.declared.compactions.Compaction.{Compaction}
use Rattle.tablet.specs.declared.compactions.Compaction.TheVariants as compactions
use Rattle.row_atomic.specs.declared.commands.Command.{Command}
use Rattle.row_atomic.specs.declared.commands.Command.TheVariants as command
use Rattle.row_atomic.specs.declared.commands.Outcome.{Outcome}
use Rattle.row_atomic.specs.declared.commands.Outcome.TheVariants as outcome

-- the edits of an apply are of its row
abbrev pub IsUnderRow : Command → Type 0
IsUnderRow (command.Apply row edits) = AllByRecursion (IsEditOf row) edits.items
IsUnderRow _ = ⊤

-- the outcome of a call without a result, of a split, and of a sweep
abbrev pub done_of : Result (Unit {0}) Refusal → Outcome
done_of (Ok _) = outcome.Done
done_of (Err refusal) = outcome.Refused refusal

abbrev pub split_of : Result ℕ Refusal → Outcome
split_of (Ok left) = outcome.Split left
split_of (Err refusal) = outcome.Refused refusal

abbrev pub swept_of : Result ℕ Refusal → Outcome
swept_of (Ok count) = outcome.Swept count
swept_of (Err refusal) = outcome.Refused refusal

-- the command that compacts the tablet with a number
abbrev pub compacting : Compaction → ℕ → Command
compacting compactions.Minor tablet = command.Minor tablet
compacting (compactions.Merge count) tablet = command.Merge tablet count
compacting compactions.Major tablet = command.Major tablet

-- ---- the cell map

-- the cells that a cluster shows
abbrev pub cells_shown : {F : Type 0} → (F → Option Contents) → ClusterState F → Cells
cells_shown contents state = cells_in (contents state.files) state.tablets

-- A command's answer is right for the cells before it, and these are the cells after it: only an accepted apply changes
-- them.
abbrev pub AnswersFromCells : Cells → Command → Outcome → Cells → Type 0
AnswersFromCells old (command.Newest row family qualifier lo hi) (outcome.Newest found) new =
    IsNewest old (version row family qualifier) lo hi (option_map stamped found) × (new ≡ old)
AnswersFromCells old (command.NextCell after) (outcome.NextCell found) new =
    IsNextCell old after found × (new ≡ old)
AnswersFromCells old (command.Apply row edits) outcome.Done new = new ≡ after_edits old edits.items
AnswersFromCells old (command.Minor tablet) outcome.Done new = new ≡ old
AnswersFromCells old (command.Merge tablet count) outcome.Done new = new ≡ old
AnswersFromCells old (command.Major tablet) outcome.Done new = new ≡ old
AnswersFromCells old (command.Split row) (outcome.Split left) new = new ≡ old
AnswersFromCells old (command.Move tablet server) outcome.Done new = new ≡ old
AnswersFromCells old command.Sweep (outcome.Swept count) new = new ≡ old
AnswersFromCells old command.DropCaches outcome.Done new = new ≡ old
AnswersFromCells old _ (outcome.Refused refusal) new = (refusal ≢ refused.Damaged) × (new ≡ old)
AnswersFromCells old _ _ new = ⊥

-- ---- tablets and files

-- the refusals that each command may have
abbrev pub MayRefuse : Command → Refusal → Type 0
MayRefuse (command.Newest row family qualifier lo hi) refusal = IsReadRefusal refusal
MayRefuse (command.NextCell after) refusal = IsReadRefusal refusal
MayRefuse (command.Apply row edits) refusal = IsApplyRefusal refusal
MayRefuse (command.Minor tablet) refusal = IsNumberedRefusal compaction.minor refusal
MayRefuse (command.Merge tablet count) refusal =
    IsNumberedRefusal (compaction.merging count) refusal
MayRefuse (command.Major tablet) refusal = IsNumberedRefusal compaction.major refusal
MayRefuse (command.Split row) refusal = IsSplitRefusal refusal
MayRefuse (command.Move tablet server) refusal = IsMoveRefusal refusal
MayRefuse command.Sweep refusal = (refusal ≡ refused.Device) ⊎ (refusal ≡ refused.NoMemory)
MayRefuse command.DropCaches refusal = ⊥

-- the effect of an accepted command on tablets and files
abbrev pub DoesToTablets : {F : Type 0}
    → (F → Option Contents) → Command → Outcome → ClusterState F → ClusterState F → Type 0
DoesToTablets contents (command.Minor tablet) outcome.Done old new =
    IsCompacted contents compaction.minor tablet old new
DoesToTablets contents (command.Merge tablet count) outcome.Done old new =
    IsCompacted contents (compaction.merging count) tablet old new
DoesToTablets contents (command.Major tablet) outcome.Done old new =
    IsCompacted contents compaction.major tablet old new
DoesToTablets contents (command.Split row) (outcome.Split left) old new =
    (left ≡ length old.places + 1) × IsCut row left old.places new.places
    × IsHalved old.next_name row left old.places old.tablets new.tablets
DoesToTablets contents (command.Move tablet server) outcome.Done old new =
    ComesTo tablet server old new
DoesToTablets contents command.Sweep (outcome.Swept count) old new =
    IsSwept (is_kept old.places) contents count old new
DoesToTablets contents command.DropCaches outcome.Done old new = IsUncached contents old new
DoesToTablets contents _ _ old new = storage_of contents new ≡ storage_of contents old

-- the tablets and files after a refused command
abbrev pub LeavesTablets : {F : Type 0} → (F → Option Contents) → Command → ClusterState F
    → ClusterState F → Type 0
LeavesTablets contents (command.Minor tablet) old new = IsAsBefore old new
LeavesTablets contents (command.Merge tablet count) old new = IsAsBefore old new
LeavesTablets contents (command.Major tablet) old new = IsAsBefore old new
LeavesTablets contents (command.Split row) old new =
    (spots_of new ≡ spots_of old)
    × MayHolderBeFlushed old.next_name row old.places old.tablets new.tablets
LeavesTablets contents (command.Move tablet server) old new =
    (¬ IsOn tablet server old.places)
    × (spots_of new ≡ spots_of old) × MayBeFlushed old.next_name tablet old.tablets new.tablets
LeavesTablets contents command.Sweep old new = IsSweptInPart (is_kept old.places) contents old new
LeavesTablets contents _ old new = storage_of contents new ≡ storage_of contents old

-- a command was accepted and had its effect, or it had one of its refusals
abbrev pub Upholds : {F : Type 0}
    → (F → Option Contents) → Command → Outcome → ClusterState F → ClusterState F → Type 0
Upholds contents command (outcome.Refused refusal) old new =
    MayRefuse command refusal × LeavesTablets contents command old new
Upholds contents command result old new = DoesToTablets contents command result old new

-- ---- files that a command writes

-- the memtable that a command would write is empty
abbrev pub HasNothingToWrite : {F : Type 0} → Command → ClusterState F → Type 0
HasNothingToWrite (command.Minor tablet) old = Numbered IsEmptied tablet old.tablets
HasNothingToWrite (command.Split row) old = OfHolder IsEmptied row old.places old.tablets
HasNothingToWrite (command.Move tablet server) old = Numbered IsEmptied tablet old.tablets
HasNothingToWrite _ old = ⊥

-- At most one file was written, under the next name. No other file has changed, and the limit of bytes of a file is
-- unchanged.
pub record WritesOne {F : Type 0} (contents : F → Option Contents) (command : Command)
    (old new : ClusterState F) : Type 0 where
  pub name : UsesName (contents old.files) old.next_name (contents new.files) new.next_name
  pub limit : new.file_limit ≡ old.file_limit
  pub none : HasNothingToWrite command old
      → (new.next_name ≡ old.next_name) × (contents new.files ≡ contents old.files)

-- The effect on files and names of a command that may write a file, and its tablets' places, even if it is refused. For
-- splits and moves `DoesToTablets` and `LeavesTablets` give the places.
abbrev pub UsesFiles : {F : Type 0}
    → (F → Option Contents) → Command → ClusterState F → ClusterState F → Type 0
UsesFiles contents (command.Minor tablet) old new =
    WritesOne contents (command.Minor tablet) old new × (spots_of new ≡ spots_of old)
UsesFiles contents (command.Merge tablet count) old new =
    WritesOne contents (command.Merge tablet count) old new × (spots_of new ≡ spots_of old)
UsesFiles contents (command.Major tablet) old new =
    WritesOne contents (command.Major tablet) old new × (spots_of new ≡ spots_of old)
UsesFiles contents (command.Split row) old new = WritesOne contents (command.Split row) old new
UsesFiles contents (command.Move tablet server) old new =
    WritesOne contents (command.Move tablet server) old new
UsesFiles contents _ old new = ⊤

-- a merging or a major compaction: if accepted, it replaces files of a tablet
abbrev pub IsMerging : Command → Type 0
IsMerging (command.Merge tablet count) = ⊤
IsMerging (command.Major tablet) = ⊤
IsMerging _ = ⊥

-- a merging or a major compaction was accepted
abbrev pub TakesFiles : Command → Outcome → Type 0
TakesFiles command result = IsMerging command × (result ≡ outcome.Done)

-- ---- the room in memory

-- edits of a row would exceed a limit of the memory of a cluster
abbrev pub OverfillsCluster : {F : Type 0} → ClusterState F → List ℕ → List Edit → Type 0
OverfillsCluster state row edits = Overfills state.places state.tablets row edits

-- the memtables have at least as much room as before
abbrev pub IsNoFuller : {F : Type 0} → ClusterState F → ClusterState F → Type 0
IsNoFuller old new = TakesNoRoom OverfillsCluster old new

-- the row and the edits are the same
abbrev pub AreThese : List ℕ → List Edit → List ℕ → List Edit → Type 0
AreThese row edits other others = (other ≡ row) × (others ≡ edits)

-- An accepted apply uses the room of its edits. A read, a sweep, a refused apply and emptying the caches use none.
abbrev pub LeavesRoom : {F : Type 0} → Command → Outcome → ClusterState F → ClusterState F → Type 0
LeavesRoom (command.Newest row family qualifier lo hi) result old new = IsNoFuller old new
LeavesRoom (command.NextCell after) result old new = IsNoFuller old new
LeavesRoom (command.Apply row edits) outcome.Done old new =
    TakesRoomOf OverfillsCluster (AreThese row edits.items) old new
LeavesRoom (command.Apply row edits) (outcome.Refused refusal) old new = IsNoFuller old new
LeavesRoom command.Sweep result old new = IsNoFuller old new
LeavesRoom command.DropCaches result old new = IsNoFuller old new
LeavesRoom _ result old new = ⊤

-- ---- why a command is refused

-- the causes of a refused compaction of the tablet with a number
pub record BarsCompaction {F : Type 0} (contents : F → Option Contents) (compaction : Compaction)
    (tablet : ℕ) (refusal : Refusal) (old : ClusterState F) : Type 0 where
  pub unknown : refusal ≡ refused.UnknownTablet ↔ ¬ HasTablet tablet old.places
  pub count : refusal ≡ refused.BadCount
      ↔ (HasTablet tablet old.places × Numbered (MeetsBadCount compaction) tablet old.tablets)
  pub full : refusal ≡ refused.TooManyFiles → Numbered (MeetsFull compaction) tablet old.tablets
  pub unfilled : ComesOfWriting refusal → ¬ Numbered (MeetsFull compaction) tablet old.tablets
  pub exhausted : refusal ≡ refused.Exhausted
      → (2 ^ 63 ≤ old.next_name) × (¬ Numbered (WritesNone compaction) tablet old.tablets)
  pub large : refusal ≡ refused.FileTooLarge
      → Numbered (IsTooLarge old.file_limit (contents old.files) compaction) tablet old.tablets
  pub damaged : refusal ≡ refused.Damaged
      → Numbered (IsOutOfOrder (contents old.files)) tablet old.tablets

-- further causes in its files as they are now: they can't be read, or the entries read don't fit in a file
pub record BarsReading {F : Type 0} (contents : F → Option Contents) (compaction : Compaction)
    (tablet : ℕ) (refusal : Refusal) (old : ClusterState F) : Type 0 where
  pub large : refusal ≡ refused.FileTooLarge
      → Numbered (ReadsTooMuch compaction old.file_limit (contents old.files)) tablet old.tablets
  pub damaged : refusal ≡ refused.Damaged
      → Numbered (CannotRead (contents old.files) compaction) tablet old.tablets

-- the causes of a refused split at a row, which flushes the tablet that holds it
pub record BarsCut {F : Type 0} (contents : F → Option Contents) (row : List ℕ) (refusal : Refusal)
    (old : ClusterState F) : Type 0 where
  pub bad : refusal ≡ refused.BadSplit ↔ BarsSplit row old.places
  pub full : refusal ≡ refused.TooManyFiles → OfHolder IsFullTablet row old.places old.tablets
  pub unfilled : ComesOfWriting refusal → ¬ OfHolder IsFullTablet row old.places old.tablets
  pub exhausted : refusal ≡ refused.Exhausted
      → (2 ^ 63 ≤ old.next_name) × (¬ OfHolder IsEmptied row old.places old.tablets)
  pub large : refusal ≡ refused.FileTooLarge → OfHolder
      (IsTooLarge old.file_limit (contents old.files) compaction.minor) row old.places old.tablets
  pub damaged : refusal ≡ refused.Damaged
      → OfHolder (IsOutOfOrder (contents old.files)) row old.places old.tablets

-- The causes of a refused command. Device faults are treated below (`TellsFaults`); a lack of memory has no cause in
-- the state.
abbrev pub IsDue : {F : Type 0} → (F → Option Contents) → Command → Refusal → ClusterState F
    → Type 0
IsDue contents (command.Newest row family qualifier lo hi) refusal old =
    refusal ≡ refused.Damaged
    → OfHolder (IsOutOfOrder (contents old.files)) row old.places old.tablets
IsDue contents (command.NextCell after) refusal old =
    refusal ≡ refused.Damaged → MeetsDamage (contents old.files) after 1 old.places old.tablets
IsDue contents (command.Apply row edits) refusal old =
    refusal ≡ refused.MemtableFull → Overfills old.places old.tablets row edits.items
IsDue contents (command.Minor tablet) refusal old =
    BarsCompaction contents compaction.minor tablet refusal old
    × BarsReading contents compaction.minor tablet refusal old
IsDue contents (command.Merge tablet count) refusal old =
    BarsCompaction contents (compaction.merging count) tablet refusal old
    × BarsReading contents (compaction.merging count) tablet refusal old
IsDue contents (command.Major tablet) refusal old =
    BarsCompaction contents compaction.major tablet refusal old
    × BarsReading contents compaction.major tablet refusal old
IsDue contents (command.Split row) refusal old = BarsCut contents row refusal old
IsDue contents (command.Move tablet server) refusal old =
    (refusal ≡ refused.UnknownServer ↔ (HasTablet tablet old.places × (most_servers ≤ server)))
    × BarsCompaction contents compaction.minor tablet refusal old
IsDue contents _ refusal old = ⊤

-- ---- preconditions of an accepted command

-- A compaction of the tablet with a number is possible: there is such a tablet with enough files to merge, it has room
-- for one more file if one is added, a name is left if one is used, and the file fits the limit of bytes.
pub record MayCompact {F : Type 0} (contents : F → Option Contents) (compaction : Compaction)
    (tablet : ℕ) (old : ClusterState F) : Type 0 where
  pub known : HasTablet tablet old.places
  pub counted : ¬ Numbered (MeetsBadCount compaction) tablet old.tablets
  pub room : ¬ Numbered (MeetsFull compaction) tablet old.tablets
  pub named : 2 ^ 63 ≤ old.next_name → Numbered (WritesNone compaction) tablet old.tablets
  pub fits : Numbered (FitsLimit old.file_limit (contents old.files) compaction) tablet old.tablets

-- a split at a row is possible, which flushes the tablet that holds it
pub record MayCut {F : Type 0} (contents : F → Option Contents) (row : List ℕ)
    (old : ClusterState F) : Type 0 where
  pub free : ¬ BarsSplit row old.places
  pub room : ¬ OfHolder IsFullTablet row old.places old.tablets
  pub named : 2 ^ 63 ≤ old.next_name → OfHolder IsEmptied row old.places old.tablets
  pub fits : OfHolder
      (FitsLimit old.file_limit (contents old.files) compaction.minor) row old.places old.tablets

-- a move is possible, which flushes a tablet that is on another server
pub record MayMove {F : Type 0} (contents : F → Option Contents) (tablet server : ℕ)
    (old : ClusterState F) : Type 0 where
  pub known : HasTablet tablet old.places
  pub near : server < most_servers
  pub flushes : ¬ IsOn tablet server old.places → MayCompact contents compaction.minor tablet old

abbrev pub MayBeDone : {F : Type 0} → (F → Option Contents) → Command → ClusterState F → Type 0
MayBeDone contents (command.Apply row edits) old =
    ¬ Overfills old.places old.tablets row edits.items
MayBeDone contents (command.Minor tablet) old = MayCompact contents compaction.minor tablet old
MayBeDone contents (command.Merge tablet count) old =
    MayCompact contents (compaction.merging count) tablet old
MayBeDone contents (command.Major tablet) old = MayCompact contents compaction.major tablet old
MayBeDone contents (command.Split row) old = MayCut contents row old
MayBeDone contents (command.Move tablet server) old = MayMove contents tablet server old
MayBeDone contents _ old = ⊤

-- ---- causes and faults

-- a refusal that comes before anything is done
abbrev pub IsBarred : Command → Refusal → Type 0
IsBarred (command.Minor tablet) refusal = refusal ≡ refused.UnknownTablet
IsBarred (command.Merge tablet count) refusal =
    (refusal ≡ refused.UnknownTablet) ⊎ (refusal ≡ refused.BadCount)
IsBarred (command.Major tablet) refusal = refusal ≡ refused.UnknownTablet
IsBarred (command.Split row) refusal = refusal ≡ refused.BadSplit
IsBarred (command.Move tablet server) refusal =
    (refusal ≡ refused.UnknownTablet) ⊎ (refusal ≡ refused.UnknownServer)
IsBarred _ refusal = ⊥

-- A refusal has a cause. Nothing is done if it comes before any work, or because the tablet would have too many files.
pub record IsRefused {F : Type 0} (contents : F → Option Contents) (command : Command)
    (refusal : Refusal) (old new : ClusterState F) : Type 0 where
  pub due : IsDue contents command refusal old
  pub barred : IsBarred command refusal → new ≡ old
  pub undone : refusal ≡ refused.TooManyFiles → IsUndone contents old new

-- An accepted command was possible, and a refused one has a cause.
abbrev pub HasCause : {F : Type 0}
    → (F → Option Contents) → Command → Outcome → ClusterState F → ClusterState F → Type 0
HasCause contents command (outcome.Refused refusal) old new =
    IsRefused contents command refusal old new
HasCause contents command _ old new = MayBeDone contents command old

-- A device failed during the command exactly if the outcome is `Device`.
pub record TellsFaults {F : Type 0} (faults : F → ℕ) (result : Outcome)
    (old new : ClusterState F) : Type 0 where
  pub later : faults old.files ≤ faults new.files
  pub device : result ≡ outcome.Refused refused.Device
      → HasRisen (faults old.files) (faults new.files)
  pub told : result ≢ outcome.Refused refused.Device → faults new.files ≡ faults old.files

-- ---- one command

-- A command had this outcome, given the files' bytes and their count of faults. Fields that need the tablets in order
-- over their files say so.
pub record IsOutcome {F : Type 0} (contents : F → Option Contents) (count : F → ℕ)
    (command : Command) (result : Outcome) (old new : ClusterState F) : Type 0 where
  -- tablets that were in order still are
  pub still : Holds contents old → Holds contents new
  -- its answer is right for the cell map
  pub answers : Holds contents old
      → AnswersFromCells (cells_shown contents old) command result (cells_shown contents new)
  -- it had its effect on tablets, places and files, or one of its refusals
  pub upholds : Upholds contents command result old new
  -- it wrote at most one file
  pub files : UsesFiles contents command old new
  -- the tablets have every file that they had, unless a compaction replaced some
  pub lists : ¬ TakesFiles command result → ListsAll old.places new.places
  -- the room in memory that it used
  pub room : LeavesRoom command result old new
  -- it was possible, or its refusal has a cause
  pub cause : HasCause contents command result old new
  -- a device's fault is answered, and only if there was one
  pub faults : TellsFaults count result old new

-- ---- a list of commands

-- commands ran in order
abbrev pub AnswersAll : {F : Type 0} → (F → Option Contents)
    → (F → ℕ) → ClusterState F → List Command → List Outcome → ClusterState F → Type 0
AnswersAll contents faults old [] [] new = new ≡ old
AnswersAll {F} contents faults old (command ∷ commands) (outcome ∷ outcomes) new =
    (next : ClusterState F) × IsOutcome contents faults command outcome old next
    × AnswersAll contents faults next commands outcomes new
AnswersAll contents faults old _ _ new = ⊥
