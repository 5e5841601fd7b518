-- The effects of a request on the cells, on the room in memory, on sessions, cleaners and collectors and on the oracle,
-- and the answers that are always given.
use Rattle.std.specs.Prelude.{◌≡◌, ◌⊎◌, ℕ, Option, Result, Ok, Err, map, ⊤}
use Rattle.cell_key.specs.declared.refusals.Refusal.{Refusal}
use Rattle.cell_key.specs.declared.refusals.Refusal.TheVariants.{Device, UnknownSession, UnknownCleaner, UnknownCollector, BadCount, EmptyCommit, TooManySessions}
use Rattle.file_store.specs.Store.{Contents}
use Rattle.row_atomic.specs.Changes.{Holds}
use Rattle.row_atomic.specs.Recorded.{OverfillsRecorded, seen_recorded}
use Rattle.rows.specs.Room.{TakesNoRoom}
use Rattle.si_model.specs.Collection.{Collects}
use Rattle.si_model.specs.Machine.{IsReached, State}
use Rattle.si_model.specs.Reads.{cell_of}
use Rattle.si_model.specs.Replies.{item_of, range_of, reach_of}
use Rattle.si_model.specs.declared.replies.CollectReply.{CollectReply}
use Rattle.oracle.specs.Marks.{MayHold}
use Rattle.oracle.specs.Ranges.{IsDrawRefusal, SameNumbers, next_range_end}
use Rattle.request_codec.specs.Replies.{replied}
use Rattle.request_codec.specs.declared.replies.Reply.{Reply}
use Rattle.request_codec.specs.declared.replies.Reply.TheVariants as codec
use Rattle.request_codec.specs.declared.requests.Request.{Request}
use Rattle.request_codec.specs.declared.requests.Request.TheVariants.{Begin, Get, Set, Delete, Scan, Step, Stop, CleanBegin, CleanStep, CollectBegin, CollectStep, Minor, Merge, Major, Split, Move, Sweep, Checkpoint, OracleRestart}
use Rattle.server_loop.specs.Runs.{IfRefused}
use Rattle.server_loop.specs.Server.{HoldsIn, Shows, server_cells, cluster_of, marks_of, rows_of}
use Rattle.server_loop.specs.declared.server.Server.{Server}
use Rattle.txn_client.specs.Room.{ChangesNext, Makes, TakesRoom}
use Rattle.txn_client.specs.Scans.{IsScanFound, IsScanReadable}
use Rattle.txn_client.specs.declared.sessions.Clients.{Clients}
use Rattle.txn_client.specs.Shows.{IsAboutToDraw, IsCrowded, IsInactive, IsUnwritten, SameClients, TouchesFor}
use Rattle.clean_up.specs.Room as clean_up
use Rattle.clean_up.specs.Shows as open_cleaners
use Rattle.clean_up.specs.Shows.{IsUnopened, SameCleaners}
use Rattle.clean_up.specs.declared.cleaners.Cleaners.{Cleaners}
use Rattle.version_collector.specs.Room.{TakesRoomOfVisits}
use Rattle.version_collector.specs.Shows as open_collectors
use Rattle.version_collector.specs.Shows.{ChangesOne, IsCount, IsEarlyRefusal, Opens, SameCollectors, StaysOpen, TellsAt, VisitsAt}
use Rattle.version_collector.specs.Visits.{Thins}
use Rattle.version_collector.specs.declared.collectors.Collectors.{Collectors}

-- The effects of a collector's step for n visits on the cells and on its collector: visits, by the rules of collection.
-- Every read of a session, each lock and each fate are unchanged.
pub record MakesVisits {F M W : Type 0} (contents : F → Option Contents) (collector n : ℕ)
    (result : Result CollectReply Refusal)
    (old new : Server F M W) (st : State) : Type 0 where
  pub visits : IsCount n
      → VisitsAt collector n result (server_cells contents old) old.collectors
      (server_cells contents new) new.collectors
  pub collects : Collects (server_cells contents old) (server_cells contents new) st

-- if the rows are intact, keys of at most n rows are erased and none is added
abbrev pub ThinsHeldCells : {F M W : Type 0} → (F → Option Contents) → ℕ → Server F M W
    → Server F M W → Type 0
ThinsHeldCells contents n old new =
    HoldsIn contents old
    → Thins n (server_cells contents old) (server_cells contents new)

-- intact files keep the cells, though they are rewritten
abbrev pub KeepsHeldCells : {F M W : Type 0} → (F → Option Contents) → Server F M W → Server F M W
    → Type 0
KeepsHeldCells contents old new =
    Holds contents (cluster_of old) → server_cells contents new ≡ server_cells contents old

-- a refusal before any visit of n, or of the only one
abbrev pub ComesFirst : Refusal → ℕ → Type 0
ComesFirst refusal n = IsEarlyRefusal refusal ⊎ (n ≡ 1)

-- An accepted step makes the edits of the next step of its session or cleaner, or none if that step makes none: cells
-- of one row at most, at the session's stamps. A collector's step makes visits, and its answer is true: after
-- Collected, each cell is tidy; after Blocked, the lock is there; and after More, at least this much less is left. Only
-- a collector's step may change cells and then be refused, by a later visit; whatever the cells are, it only erases. A
-- command that writes files changes no cell if the files are intact, and any other request changes none, whatever the
-- files contain. A scan agrees with reads of its cells, sends each value that it may, and looks at the full count of
-- cells, unless none is left or the next item does not fit.
abbrev pub ChangesCells : {F M W : Type 0} → (F → Option Contents) → Request → Reply → Server F M W
    → Server F M W → Type 0
ChangesCells contents (Step start) (codec.Step progress) old new =
    (st : State) → Shows contents old st
    → TouchesFor st start (server_cells contents old) (server_cells contents new)
    × (IsReached st → Makes (ChangesNext st start) progress (server_cells contents old)
    (server_cells contents new))
ChangesCells contents (CleanStep cleaner) (codec.CleanStep done) old new =
    (st : State) → IsReached st → Shows contents old st
    → open_cleaners.TouchesFor st cleaner (server_cells contents old) (server_cells contents new)
    × clean_up.Makes (clean_up.ChangesNext st cleaner) done (server_cells contents old)
    (server_cells contents new)
ChangesCells contents (CollectStep collector n) (codec.CollectStep done) old new =
    ThinsHeldCells contents n old new
    × ((st : State) → IsReached st → Shows contents old st
    → MakesVisits contents collector n (Ok done) old new st
    × TellsAt collector n done (server_cells contents old) old.collectors
    (server_cells contents new) new.collectors st)
ChangesCells contents (CollectStep collector n) (codec.Refused refusal) old new =
    ThinsHeldCells contents n old new
    × ((st : State) → IsReached st → Shows contents old st
    → MakesVisits contents collector n (Err refusal) old new st)
    × (ComesFirst refusal n → server_cells contents new ≡ server_cells contents old)
ChangesCells contents (Scan start range keys_only cells) (codec.Scan reply) old new =
    (server_cells contents new ≡ server_cells contents old)
    × (IsScanReadable (seen_recorded contents) (rows_of old) (range_of range)
    → IsScanFound (server_cells contents old) start (range_of range) keys_only cells
    (map item_of reply.items.items) (reach_of reply.reach))
ChangesCells contents (Minor tablet) reply old new = KeepsHeldCells contents old new
ChangesCells contents (Merge tablet count) reply old new = KeepsHeldCells contents old new
ChangesCells contents (Major tablet) reply old new = KeepsHeldCells contents old new
ChangesCells contents (Split row) reply old new = KeepsHeldCells contents old new
ChangesCells contents (Move tablet server) reply old new = KeepsHeldCells contents old new
ChangesCells contents Sweep reply old new = KeepsHeldCells contents old new
ChangesCells contents Checkpoint reply old new = KeepsHeldCells contents old new
ChangesCells contents request reply old new =
    server_cells contents new ≡ server_cells contents old

-- A request for sessions, cleaners, collectors or the oracle takes no room in memory, except a step, which takes the
-- room of its edits. The room that a command or a checkpoint takes is given by its outcome.
abbrev pub LeavesServerRoom : {F M W : Type 0} → (F → Option Contents) → Request → Reply
    → Server F M W → Server F M W → Type 0
LeavesServerRoom contents Begin reply old new =
    TakesNoRoom OverfillsRecorded (rows_of old) (rows_of new)
LeavesServerRoom contents (Get start row family) reply old new =
    TakesNoRoom OverfillsRecorded (rows_of old) (rows_of new)
LeavesServerRoom contents (Set start row family value) reply old new =
    TakesNoRoom OverfillsRecorded (rows_of old) (rows_of new)
LeavesServerRoom contents (Delete start row family) reply old new =
    TakesNoRoom OverfillsRecorded (rows_of old) (rows_of new)
LeavesServerRoom contents (Scan start range keys_only cells) reply old new =
    TakesNoRoom OverfillsRecorded (rows_of old) (rows_of new)
LeavesServerRoom contents (Step start) (codec.Step progress) old new =
    (st : State) → IsReached st → Shows contents old st
    → TakesRoom OverfillsRecorded (ChangesNext st start) progress (rows_of old) (rows_of new)
LeavesServerRoom contents (Step start) (codec.Refused refusal) old new =
    TakesNoRoom OverfillsRecorded (rows_of old) (rows_of new)
LeavesServerRoom contents (Stop start) reply old new =
    TakesNoRoom OverfillsRecorded (rows_of old) (rows_of new)
LeavesServerRoom contents (CleanBegin row family) reply old new =
    TakesNoRoom OverfillsRecorded (rows_of old) (rows_of new)
LeavesServerRoom contents (CleanStep cleaner) (codec.CleanStep done) old new =
    (st : State) → IsReached st → Shows contents old st
    → clean_up.TakesRoom OverfillsRecorded (clean_up.ChangesNext st cleaner) done (rows_of old)
    (rows_of new)
LeavesServerRoom contents (CleanStep cleaner) (codec.Refused refusal) old new =
    TakesNoRoom OverfillsRecorded (rows_of old) (rows_of new)
LeavesServerRoom contents CollectBegin reply old new =
    TakesNoRoom OverfillsRecorded (rows_of old) (rows_of new)
LeavesServerRoom contents (CollectStep collector n) reply old new =
    TakesRoomOfVisits OverfillsRecorded n (rows_of old) (rows_of new)
LeavesServerRoom contents OracleRestart reply old new =
    TakesNoRoom OverfillsRecorded (rows_of old) (rows_of new)
LeavesServerRoom contents request reply old new = ⊤

-- Refusals that need no memory are always answered: the most sessions are active, the session isn't active, a commit
-- has no writes, the refusals of a step that draws, a cleaner or a collector isn't open, and a bad number of visits.
abbrev pub IsAlwaysTold : Request → Reply → State → Type 0
IsAlwaysTold Begin reply st = IsCrowded st → reply ≡ codec.Refused TooManySessions
IsAlwaysTold (Get start row family) reply st =
    IsInactive st start → reply ≡ codec.Refused UnknownSession
IsAlwaysTold (Set start row family value) reply st =
    IsInactive st start → reply ≡ codec.Refused UnknownSession
IsAlwaysTold (Delete start row family) reply st =
    IsInactive st start → reply ≡ codec.Refused UnknownSession
IsAlwaysTold (Scan start range keys_only cells) reply st =
    IsInactive st start → reply ≡ codec.Refused UnknownSession
IsAlwaysTold (Step start) reply st =
    (IsInactive st start → reply ≡ codec.Refused UnknownSession)
    × (IsUnwritten st start → reply ≡ codec.Refused EmptyCommit)
    × (IsAboutToDraw st start → IfRefused IsDrawRefusal (replied reply))
IsAlwaysTold (Stop start) reply st = IsInactive st start → reply ≡ codec.Refused UnknownSession
IsAlwaysTold (CleanStep cleaner) reply st =
    IsUnopened st cleaner → reply ≡ codec.Refused UnknownCleaner
IsAlwaysTold (CollectStep collector n) reply st =
    (open_collectors.IsUnopened st collector → reply ≡ codec.Refused UnknownCollector)
    × (¬ IsCount n → (reply ≡ codec.Refused UnknownCollector) ⊎ (reply ≡ codec.Refused BadCount))
IsAlwaysTold request reply st = ⊤

-- An accepted begin, write, deletion, step or end changes the sessions as the machine's step says. Any other request
-- leaves them unchanged.
abbrev pub KeepsSessions : Request → Reply → Clients → Clients → Type 0
KeepsSessions Begin (codec.Begin start) old new = ⊤
KeepsSessions (Set start row family value) codec.Set old new = ⊤
KeepsSessions (Delete start row family) codec.Delete old new = ⊤
KeepsSessions (Step start) (codec.Step progress) old new = ⊤
KeepsSessions (Stop start) codec.Stop old new = ⊤
KeepsSessions request reply old new = SameClients old new

-- An accepted beginning or step changes the cleaners as the machine's step says, and only its own cleaner. Any other
-- request leaves them unchanged.
abbrev pub KeepsCleaners : Request → Reply → Cleaners → Cleaners → Type 0
KeepsCleaners (CleanBegin row family) (codec.CleanBegin found) old new =
    open_cleaners.Opens (cell_of row.now family.now) found old new
KeepsCleaners (CleanStep cleaner) (codec.CleanStep reply) old new =
    open_cleaners.ChangesOne cleaner old new
KeepsCleaners request reply old new = SameCleaners old new

-- A beginning or a step changes the collectors as the machine's step says, and only its own collector. A refused step
-- keeps the visits that it made, and its collector stays open, with its floor. A step that is refused before its
-- visits, or in its only visit, leaves the collectors unchanged, and so does any other request.
abbrev pub KeepsCollectors : Request → Reply → Collectors → Collectors → Type 0
KeepsCollectors CollectBegin (codec.CollectBegin collector floor) old new =
    Opens floor collector old new
KeepsCollectors (CollectStep collector n) reply old new =
    ChangesOne collector old new
    × IfRefused (λ refusal. StaysOpen collector old new
    × (ComesFirst refusal n → SameCollectors old new)) (replied reply)
KeepsCollectors request reply old new = SameCollectors old new

-- the mark is unchanged, or it is the end of the oracle's next range
abbrev pub LeavesMark : {F M W : Type 0} → (M → Option ℕ) → Server F M W → Server F M W → Type 0
LeavesMark mark old new =
    MayHold (next_range_end old.oracle.range_end) (mark (marks_of old)) (mark (marks_of new))

-- The oracle is unchanged after a refused begin. If the mark could not be stored, only its last stamp and its range are
-- unchanged.
abbrev pub LeavesOracle : {F M W : Type 0} → (M → Option ℕ) → Refusal → Server F M W → Server F M W
    → Type 0
LeavesOracle mark Device old new = LeavesMark mark old new × SameNumbers old.oracle new.oracle
LeavesOracle mark refusal old new = new.oracle ≡ old.oracle

-- Only a begin, a step that draws a stamp, and a restart use the oracle. A restart leaves the mark unchanged. If a
-- restart or a step is refused, the last stamp and the range are unchanged.
abbrev pub KeepsOracle : {F M W : Type 0} → (F → Option Contents) → (M → Option ℕ) → Request → Reply
    → Server F M W → Server F M W → Type 0
KeepsOracle contents mark Begin reply old new =
    IfRefused (λ refusal. LeavesOracle mark refusal old new) (replied reply)
KeepsOracle contents mark (Step start) reply old new =
    ((st : State) → Shows contents old st → ¬ IsAboutToDraw st start → new.oracle ≡ old.oracle)
    × IfRefused (λ _. LeavesMark mark old new × SameNumbers old.oracle new.oracle) (replied reply)
KeepsOracle contents mark OracleRestart reply old new =
    (mark (marks_of new) ≡ mark (marks_of old))
    × IfRefused (λ _. SameNumbers old.oracle new.oracle) (replied reply)
KeepsOracle contents mark request reply old new = new.oracle ≡ old.oracle
