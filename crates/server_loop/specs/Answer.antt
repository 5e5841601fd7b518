-- The contract of an answer to a request, in eight parts.
use Rattle.std.specs.Prelude.{◌≡◌, ℕ, List, Option, IfSome, ⊤}
use Rattle.cell_key.specs.declared.refusals.Refusal.{Refusal}
use Rattle.cell_key.specs.declared.refusals.Refusal.TheVariants.{Damaged, Device, Exhausted, MemtableFull}
use Rattle.file_store.specs.Store.{Contents}
use Rattle.file_store.specs.declared.files.Files.{Ghosts as Files}
use Rattle.oracle.specs.declared.marks.MarkStore.{Ghosts as MarkStore}
use Rattle.request_codec.specs.Replies.{replied, HoldsWithinLimits}
use Rattle.request_codec.specs.Requests.{asked}
use Rattle.request_codec.specs.declared.replies.Reply.{Reply}
use Rattle.request_codec.specs.declared.replies.Reply.TheVariants as codec
use Rattle.request_codec.specs.declared.requests.Request.{Request}
use Rattle.request_codec.specs.declared.requests.Request.TheVariants.{Begin, Get, Scan, Step, CleanBegin, CleanStep, CollectBegin, CollectStep, Sweep, Checkpoint, Split, Move, Status}
use Rattle.row_atomic.specs.Journals.{JournalView}
use Rattle.row_atomic.specs.Recorded.{OverfillsRecorded, logged_of, seen_recorded}
use Rattle.rows.specs.Room.{HasNoRoom}
use Rattle.row_atomic.specs.Roots.{Checkpoints, Rests, StaysOrRests}
use Rattle.si_model.specs.Machine.{IsReached, State}
use Rattle.si_model.specs.Reads.{cell_of}
use Rattle.si_model.specs.Replies.{range_of}
use Rattle.server_loop.specs.Commands.{HasOutcome, command_of, outcome_of}
use Rattle.server_loop.specs.Refusals.{IsRefusalOfRequest}
use Rattle.server_loop.specs.Reports.{IsReport}
use Rattle.server_loop.specs.Resting.{KeepsResting}
use Rattle.server_loop.specs.Runs.{IfRefused, StampsGoOn, StepsAs}
use Rattle.server_loop.specs.Sessions.{ChangesCells, IsAlwaysTold, KeepsCleaners, KeepsCollectors, KeepsOracle, KeepsSessions, LeavesServerRoom}
use Rattle.server_loop.specs.Server.{HoldsIn, IsFaultSeen, SeesNoFault, Shows, server_cells, cluster_of, floor_of, journal_of, tending_of, last_of, marks_of, rows_of, top_of}
use Rattle.server_loop.specs.declared.server.Server.{Server}
use Rattle.txn_client.specs.Room.{ChangesNext, EditsOfStep}
use Rattle.txn_client.specs.Reads.{IsDamaged}
use Rattle.txn_client.specs.Refusals.{IsNextReadable}
use Rattle.txn_client.specs.Scans.{IsScanDamaged, IsScanReadable}
use Rattle.txn_client.specs.Shows.{IsAboutToDraw}
use Rattle.clean_up.specs.Locks.{LacksPlace}
use Rattle.clean_up.specs.Room as clean_up
use Rattle.clean_up.specs.Shows.{IsUsedUp}
use Rattle.clean_up.specs.Told as cleaner_reads
use Rattle.version_collector.specs.Room.{AreOfVisitsIn}
use Rattle.version_collector.specs.Shows as collectors

-- ---- the machine

-- The answer is a step of the machine. Its refusal is one of this request's, and its contents are within the limits.
pub record IsMachineStep {F M W : Type 0} (contents : F → Option Contents) (request : Request)
    (reply : Reply) (old new : Server F M W) : Type 0 where
  pub step : StepsAs (Shows contents) old new (asked request) (replied reply)
  pub refusal : IfRefused (IsRefusalOfRequest request) (replied reply)
  pub limits : HoldsWithinLimits (replied reply)

-- ---- stamps

-- a restarted oracle continues from its mark, if the mark is known
abbrev pub FollowsMark : {F M W : Type 0} → (M → Option ℕ) → Reply → Server F M W → Server F M W
    → Type 0
FollowsMark mark codec.OracleRestart old new = IfSome (mark (marks_of old)) (λ n. last_of new ≡ n)
FollowsMark mark reply old new = ⊤

-- When Exhausted is answered: no stamp is left, for a Begin and for a Step that draws one; no number is left, for a
-- cleaner or a collector. For a command its outcome gives the reason.
abbrev pub LacksStamp : {F M W : Type 0} → (F → Option Contents) → Request → Server F M W → Type 0
LacksStamp contents Begin old = last_of old ≡ 9_223_372_036_854_775_807
LacksStamp contents (Step start) old =
    (last_of old ≡ 9_223_372_036_854_775_807)
    × ((st : State) → Shows contents old st → IsAboutToDraw st start)
LacksStamp contents (CleanBegin row family) old = (st : State) → Shows contents old st → IsUsedUp st
LacksStamp contents CollectBegin old = (st : State) → Shows contents old st → collectors.IsUsedUp st
LacksStamp contents request old = ⊤

-- A stamp in an answer is the oracle's next one, and otherwise only a restart moves the last stamp.
pub record DrawsStamps {F M W : Type 0} (contents : F → Option Contents) (mark : M → Option ℕ)
    (request : Request) (reply : Reply) (old new : Server F M W) : Type 0 where
  pub last : StampsGoOn (replied reply) (last_of old) (last_of new)
  pub restarted : FollowsMark mark reply old new
  pub exhausted : reply ≡ codec.Refused Exhausted → LacksStamp contents request old

-- ---- cells and room

-- A step makes the next edits of its session or cleaner, or its collector's visits, and takes their room in memory.
-- Nothing else changes a cell. The room that a command takes is given by its outcome.
pub record MakesEdits {F M W : Type 0} (contents : F → Option Contents) (request : Request)
    (reply : Reply) (old new : Server F M W) : Type 0 where
  pub changes : ChangesCells contents request reply old new
  pub room : LeavesServerRoom contents request reply old new

-- ---- sessions

-- The answers that are always given in a shown state, and the effects of a request on the sessions, the cleaners, the
-- collectors and the oracle.
pub record ServesSessions {F M W : Type 0} (contents : F → Option Contents) (mark : M → Option ℕ)
    (request : Request) (reply : Reply) (old new : Server F M W) : Type 0 where
  pub told : (st : State) → Shows contents old st → IsAlwaysTold request reply st
  pub sessions : KeepsSessions request reply old.clients new.clients
  pub cleaners : KeepsCleaners request reply old.cleaners new.cleaners
  pub collectors : KeepsCollectors request reply old.collectors new.collectors
  pub oracle : KeepsOracle contents mark request reply old new

-- ---- tablets and files

-- a property of the report of a reply, if it has one
abbrev pub IfReported : (List ℕ → Type 0) → Reply → Type 0
IfReported P (codec.Status report) = P report.items
IfReported P reply = ⊤

-- The effects of a request on tablets and files. A report is true, and nothing at all changes by it. A checkpoint
-- writes the sessions' top and the collectors' greatest floor, and once it is accepted, the files keep the tablets'
-- cells. If a put replaces files as a whole, a refused checkpoint leaves in the files the cells that they kept before,
-- or the tablets' cells.
abbrev pub TendsTablets : {F M W : Type 0} → Files F W → Request → Reply → Server F M W
    → Server F M W → Type 0
TendsTablets files Checkpoint reply old new =
    Checkpoints files.contents files.faults (top_of old) (floor_of old)
    (cluster_of old) (outcome_of reply) (cluster_of new)
    × (reply ≡ codec.Checkpoint
    → Rests files.contents (top_of old) (floor_of old) (cluster_of old) (cluster_of new))
    × (files.replaces → (refusal : Refusal) → reply ≡ codec.Refused refusal
    → StaysOrRests files.contents (top_of old) (floor_of old) (cluster_of old) (cluster_of new))
TendsTablets files (Status tablet) reply old new =
    (new ≡ old) × IfReported (IsReport files.contents old tablet) reply
TendsTablets files request reply old new =
    HasOutcome files.contents files.faults
    (command_of request) request reply (cluster_of old) (cluster_of new)

-- ---- faults and causes

-- When MemtableFull is answered: the edits of the session's or the cleaner's step, or of the collector's visits, have
-- no room in the memtable of their row's tablet. If a state is shown, they are the machine's edits of the next step.
abbrev pub LacksRoom : {F M W : Type 0} → (F → Option Contents) → Request → Server F M W → Type 0
LacksRoom contents (Step start) old =
    HasNoRoom OverfillsRecorded (rows_of old)
    (EditsOfStep (HoldsIn contents old) (server_cells contents old) old.clients start)
    × ((st : State) → IsReached st → Shows contents old st
    → HasNoRoom OverfillsRecorded (rows_of old) (ChangesNext st start))
LacksRoom contents (CleanStep cleaner) old =
    HasNoRoom OverfillsRecorded (rows_of old)
    (clean_up.EditsOfStep (HoldsIn contents old) (server_cells contents old) old.cleaners
    cleaner)
    × ((st : State) → IsReached st → Shows contents old st
    → HasNoRoom OverfillsRecorded (rows_of old) (clean_up.ChangesNext st cleaner))
LacksRoom contents (CollectStep collector n) old =
    HasNoRoom OverfillsRecorded (rows_of old) (AreOfVisitsIn n)
LacksRoom contents request old = ⊤

-- When Damaged is answered. For a Get, a Scan, and the beginning or a step of a cleaner: if the rows that it reads are
-- readable, the cells are damaged. For a step of a session: its row is not readable. For a step of a collector: its
-- rows are not readable, or no reached state is shown.
abbrev pub ReadsDamage : {F M W : Type 0} → (F → Option Contents) → Request → Server F M W
    → Server F M W → Type 0
ReadsDamage contents (Get start row family) old new =
    (seen_recorded contents).readable (rows_of old) row.now
    → IsDamaged (server_cells contents old) (cell_of row.now family.now) start
ReadsDamage contents (Scan start range keys_only cells) old new =
    IsScanReadable (seen_recorded contents) (rows_of old) (range_of range)
    → IsScanDamaged (server_cells contents old) (range_of range) start
ReadsDamage contents (Step start) old new =
    ¬ IsNextReadable (seen_recorded contents) (rows_of old) old.clients start
ReadsDamage contents (CleanBegin row family) old new =
    (seen_recorded contents).readable (rows_of old) row.now
    → LacksPlace (server_cells contents old) (cell_of row.now family.now)
ReadsDamage contents (CleanStep cleaner) old new =
    cleaner_reads.IsNextReadable (seen_recorded contents) (rows_of old) old.cleaners cleaner
    → cleaner_reads.MeetsBadRecord (server_cells contents old) old.cleaners cleaner
ReadsDamage contents (CollectStep collector n) old new =
    collectors.IsStepReadable (seen_recorded contents) (rows_of old)
    old.collectors new.collectors collector
    → collectors.InEachShown (server_cells contents old) old.collectors (λ st. ⊥)
ReadsDamage contents request old new = ⊤

-- A device's fault is answered if and only if a count of faults rose. For a command the outcome gives the reason of a
-- refusal.
pub record TellsCauses {F M W : Type 0} (contents : F → Option Contents) (file_faults : F → ℕ)
    (mark_faults : M → ℕ) (request : Request) (reply : Reply) (old new : Server F M W)
    : Type 0 where
  pub device : reply ≡ codec.Refused Device → IsFaultSeen file_faults mark_faults old new
  pub told : ¬ (reply ≡ codec.Refused Device) → SeesNoFault file_faults mark_faults old new
  pub full : reply ≡ codec.Refused MemtableFull → LacksRoom contents request old
  pub damaged : reply ≡ codec.Refused Damaged → ReadsDamage contents request old new

-- ---- the journal

-- The logged part of the journal is kept, and the whole journal if tablets move. A checkpoint and a sweep end the
-- recording.
abbrev pub KeepsLogged : Request → Option JournalView → Option JournalView → Type 0
KeepsLogged Checkpoint old new = ⊤
KeepsLogged Sweep old new = ⊤
KeepsLogged (Split row) old new = new ≡ old
KeepsLogged (Move tablet server) old new = new ≡ old
KeepsLogged request old new = logged_of new ≡ logged_of old

-- ---- all parts

-- The contract of an answer without the part on resting. It depends on the views of the files and the mark store: the
-- files' bytes, the mark, and the counts of faults of both.
pub record IsPlainAnswer {F M W : Type 0} (files : Files F W) (marks : MarkStore M)
    (old : Server F M W) (request : Request) (reply : Reply) (new : Server F M W) : Type 0 where
  pub step : IsMachineStep files.contents request reply old new
  pub stamps : DrawsStamps files.contents marks.mark request reply old new
  pub edits : MakesEdits files.contents request reply old new
  pub sessions : ServesSessions files.contents marks.mark request reply old new
  pub tablets : TendsTablets files request reply old new
  pub causes : TellsCauses files.contents files.faults marks.faults request reply old new
  -- no request changes when a server compacts and merges on its own
  pub tending : tending_of new ≡ tending_of old
  -- and only a checkpoint and a sweep change the logged part of the journal
  pub logged : KeepsLogged request (journal_of old) (journal_of new)

-- The contract of an answer.
pub record IsAnswer {F M W : Type 0} (files : Files F W) (marks : MarkStore M)
    (old : Server F M W) (request : Request) (reply : Reply) (new : Server F M W) : Type 0 where
  pub plain : IsPlainAnswer files marks old request reply new
  pub resting : KeepsResting files marks.mark request reply old new
