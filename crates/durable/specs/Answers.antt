-- The state that a server with a log keeps over a kill.
use Rattle.std.specs.Prelude.{◌≡◌, ◌≤◌, ◌+◌, ◌⊎◌, ℕ, List, ◌++◌, length, Bool, Result, Ok, Err, OnErr, OnOk, true, ⊤}
use Rattle.std.specs.List.{AllByRecursion}
use Rattle.cell_key.specs.Cells.{Cells, after_edits}
use Rattle.cell_key.specs.declared.edits.Edit.{Edit}
use Rattle.cell_key.specs.declared.refusals.Refusal.{Refusal}
use Rattle.cell_key.specs.declared.refusals.Refusal.TheVariants.{Device, NoMemory}
use Rattle.commit_log.specs.Edits.{HoldEdits, IsStoredEdit, spelled_edits, spelled_entries}
use Rattle.commit_log.specs.Faults.{HasRisen}
use Rattle.commit_log.specs.Records.{AreUpTo, HasRecord, any_root, root_record}
use Rattle.commit_log.specs.declared.logs.Log.{Ghosts as Log}
use Rattle.metadata_table.specs.Roots.{RootView}
use Rattle.oracle.specs.declared.marks.MarkStore.{Ghosts as MarkStore}
use Rattle.row_atomic.specs.Journals.{HasRoomFor, empty_journal}
use Rattle.row_atomic.specs.Roots.{root_sum}
use Rattle.request_codec.specs.Answers.{answer_of}
use Rattle.request_codec.specs.Operations.{operation_of}
use Rattle.request_codec.specs.Replies.{replied}
use Rattle.request_codec.specs.declared.answers.Answer.{Answer}
use Rattle.request_codec.specs.declared.answers.Answer.TheVariants as given
use Rattle.request_codec.specs.declared.operations.Operation.{Operation}
use Rattle.request_codec.specs.declared.operations.Operation.TheVariants as lent
use Rattle.request_codec.specs.declared.replies.Reply.{Reply}
use Rattle.request_codec.specs.declared.replies.Reply.TheVariants as codec
use Rattle.request_codec.specs.declared.requests.Request.{Request}
use Rattle.request_codec.specs.declared.requests.Request.TheVariants.{Begin, Step, CleanStep, CollectStep, Split, Move, Sweep, Checkpoint}
use Rattle.si_model.specs.Machine.{Place, State, reopened, Checkpoint as CheckpointAsked}
use Rattle.si_model.specs.ShowsCells.{ShowsCells}
use Rattle.durable.specs.Devices.{IsOver, Lasts, most_stamp}
use Rattle.durable.specs.Due.{IsRootDue, one_more, tried_at}
use Rattle.durable.specs.Durability.{GoesOn, Settles}
use Rattle.durable.specs.StoredMarks.{CoversStamp}
use Rattle.durable.specs.View.{RootCalls, View}
use Rattle.durable.specs.Visits.{visits_of}
use Rattle.durable.specs.declared.server.DurableServer.{DurableServer}
use Rattle.server_loop.specs.Commands.{checkpointed}
use Rattle.server_loop.specs.Runs.{StepsAs}
use Rattle.server_loop.specs.declared.upkeep.RootName.{RootName}

-- requests around which roots are put
abbrev pub MovesTablets : Request → Type 0
MovesTablets (Split row) = ⊤
MovesTablets (Move tablet server) = ⊤
MovesTablets request = ⊥

-- requests that put roots or remove files: the server inside doesn't answer them by itself
abbrev pub ActsOnRoots : Request → Type 0
ActsOnRoots (Split row) = ⊤
ActsOnRoots (Move tablet server) = ⊤
ActsOnRoots Sweep = ⊤
ActsOnRoots Checkpoint = ⊤
ActsOnRoots request = ⊥

-- operations that put roots or remove files: none of several cells does
abbrev pub TouchesRoots : Operation → Type 0
TouchesRoots (lent.One request) = ActsOnRoots request
TouchesRoots operation = ⊥

-- requests that need room in the log: they may write edits or draw a stamp
abbrev pub NeedsRoom : Request → Type 0
NeedsRoom Begin = ⊤
NeedsRoom (Step start) = ⊤
NeedsRoom (CleanStep cleaner) = ⊤
NeedsRoom (CollectStep collector visits) = ⊤
NeedsRoom request = ⊥

-- operations of several cells that do: those that write edits or draw a stamp
abbrev pub NeedsLogRoom : Operation → Type 0
NeedsLogRoom (lent.One request) = ⊥
NeedsLogRoom (lent.Commit start writes) = ⊤
NeedsLogRoom (lent.Read start cells stays_open) = start ≡ 0

-- ---- the journal

-- The files keep cells under a root with the places of a state's tablets. The logged edits, and then the
-- waiting ones, change these cells to ones that show the state after a clean restart.
pub record Follows {S : Type 0} (view : View S) (server : S) (root : RootView) (st : State)
    : Type 0 where
  pub base : Cells
  pub kept : view.stores server root base st.places
  pub first : List Edit
  pub then : List Edit
  pub logged_bytes : view.logged server ≡ spelled_edits first
  pub waiting_bytes : view.waiting server ≡ spelled_edits then
  pub counted : view.count server ≡ length (first ++ then)
  pub measured : view.entry_bytes server ≡ length (spelled_entries (first ++ then))
  pub stored : AllByRecursion IsStoredEdit (first ++ then)
  pub shows : ShowsCells (after_edits base (first ++ then)) (reopened st)
  pub next : st.next_tablet ≡ length st.places + 1
  pub top : st.top ≤ view.last server

-- the stored cells stay
abbrev pub StaysStored : {S : Type 0} → View S → S → S → Type 0
StaysStored view old new =
    (root : RootView) (base : Cells) (places : List Place) → view.stores old root base places
    → view.stores new root base places

-- and the root still has the places of the tablets
pub record StaysRooted {S : Type 0} (view : View S) (old new : S) : Type 0 where
  pub stored : StaysStored view old new
  pub rooted : (root : RootView) → view.is_rooted old root → view.is_rooted new root

-- this root was put, and keeps cells which show the state after a clean restart
pub record HasNewRoot {S : Type 0} (view : View S) (root : RootView) (new : S) (st : State)
    : Type 0 where
  pub rooted : view.is_rooted new root
  pub base : Cells
  pub kept : view.stores new root base st.places
  pub shows : ShowsCells base (reopened st)
  pub next : st.next_tablet ≡ length st.places + 1
  pub top : st.top ≤ view.last new
  pub low : root.top ≤ view.last new

-- the journal and the last stamp stay
pub record KeepsJournal {S : Type 0} (view : View S) (old new : S) : Type 0 where
  pub goes_on : view.recording new ≡ view.recording old
  pub has : view.logged new ≡ view.logged old
  pub waits : view.waiting new ≡ view.waiting old
  pub stamp : view.last new ≡ view.last old

-- This was a checkpoint with this result, apart from the journal, which is kept. Once it is done, the new root keeps the
-- shown cells. A refusal leaves the old root, or the new one was put.
pub record ActsAsCheckpoint {S : Type 0} (view : View S) (calls : RootCalls S)
    (shows : S → State → Type 0) (old : S) (result : Result (Unit {0}) Refusal) (new : S)
    : Type 0 where
  pub step : StepsAs shows old new CheckpointAsked (replied (checkpointed result))
  pub shown : (st : State) → shows old st → shows new st
  pub says : calls.checkpoints old (checkpointed result) new
  pub keeps : KeepsJournal view old new
  pub done : OnOk result ((st : State) → shows old st
      → HasNewRoot view (view.next_root new) new st × view.is_clean new)
  pub undone : OnErr result (StaysRooted view old new
      ⊎ ((st : State) → shows old st → HasNewRoot view (view.next_root new) new st))

-- the name of a root in the records of a log
abbrev pub named : RootView → List ℕ
named root = root_record root.top (root_sum root)

-- A log names the root that it is over: none of its records says that this may be any root.
pub record NamesItsRoot (holds : List (List ℕ) → Type 0) : Type 0 where
  pub records : List (List ℕ)
  pub in_log : holds records
  pub names : ¬ HasRecord records any_root

-- this is the name of a root
abbrev pub IsNameOf : RootName → RootView → Type 0
IsNameOf name root = (name.top ≡ root.top) × (name.sum ≡ root_sum root)

-- Records hold edits within the limits, which have these bytes as fields.
pub record HaveBytes (records : List (List ℕ)) (bytes : List ℕ) : Type 0 where
  pub edits : List Edit
  pub held : HoldEdits records edits
  pub stored : AllByRecursion IsStoredEdit edits
  pub spelled : spelled_edits edits ≡ bytes

-- ---- a server with a log

module _ {S M L : Type 0} (view : View S) (log : Log L) where
  -- Its files keep cells under a root whose greatest stamp the mark's file covers.
  abbrev pub StoresUnder : DurableServer S M L → RootView → Cells → List Place → Type 0
  StoresUnder server root base places =
      view.stores server.server root base places × (root.top ≤ server.marks.stored)

  -- The log holds records. Unless it failed, they have the edits that the server counts as logged.
  abbrev pub HoldsRecords : DurableServer S M L → List (List ℕ) → Type 0
  HoldsRecords server records =
      log.holds server.log records
      × ((server.is_stopped ≡ true) ⊎ HaveBytes records (view.logged server.server))

  -- Its devices keep a state, which needn't be the one that it shows.
  pub record LastsIn (server : DurableServer S M L) (st : State) : Type 0 where
    pub kept : Lasts (StoresUnder server) (HoldsRecords server) (CoversStamp server.marks) st

  -- The log is over a root and has the edits that the server counts as logged. The mark's file covers the
  -- root's greatest stamp, and the file or the log the stamps that count as covered.
  pub record HoldsLogged (server : DurableServer S M L) (root : RootView) : Type 0 where
    pub records : List (List ℕ)
    pub in_log : log.holds server.log records
    pub over : IsOver records root
    pub stamps : AreUpTo most_stamp records
    pub low : root.top ≤ server.marks.stored
    pub limit : server.marks.stored ≤ most_stamp
    pub covered : CoversStamp server.marks records server.marks.covered
    pub edits : List Edit
    pub held : HoldEdits records edits
    pub stored : AllByRecursion IsStoredEdit edits
    pub room : HasRoomFor empty_journal edits
    pub bytes : spelled_edits edits ≡ view.logged server.server

  -- The log is so over the current root, which has the places of the tablets. Or the log failed: then no
  -- reply leaves the server any more.
  abbrev pub Logs : DurableServer S M L → Type 0
  Logs server =
      (server.is_stopped ≡ true)
      ⊎ ((root : RootView) × view.is_rooted server.server root × HoldsLogged server root)

-- a server with a log shows the states of the server inside
abbrev pub shown_by : {S M L : Type 0} → (S → State → Type 0) → DurableServer S M L → State
    → Type 0
shown_by shows server st = shows server.server st

-- ---- answers

-- the reply to a sweep
abbrev pub swept : Result ℕ Refusal → Reply
swept (Ok count) = codec.Sweep count
swept (Err refusal) = codec.Refused refusal

-- A sweep left the root's files. Or no edits are recorded: nothing was done, and no reply leaves the
-- server any more.
abbrev pub SweepsNow : {S : Type 0} → RootCalls S → Type 0 → S → Result ℕ Refusal → S → Type 0
SweepsNow calls stopped old result new =
    calls.sweeps old result new ⊎ ((result ≡ Err Device) × stopped × (new ≡ old))

module _ {S : Type 0} (view : View S) (calls : RootCalls S) where
  -- The files answered a checkpoint, apart from the journal.
  abbrev pub Checkpoints : S → Reply → S → Type 0
  Checkpoints old reply new =
      (mid next : S)
      × view.same old mid × calls.checkpoints mid reply next × view.same next new

  -- A checkpoint was answered as the files answered it. Or it was refused before a tablet was flushed: with
  -- Device, since the mark's file failed or the log got no room for its renewal; or with NoMemory, since
  -- memory for that room was refused. Or with NoMemory after the root was put: memory to name it alone in
  -- the log was refused. Or with Device: the log failed, before that or after, or between the flush and the
  -- put, where the files are as if memory for the root had been refused. Then no reply leaves the server any
  -- more.
  pub data PutsRoot (stopped risen : Type 0) (old : S) (reply : Reply) (new : S) : Type 0 where
    answered : Checkpoints old reply new → PutsRoot stopped risen old reply new
    unready : reply ≡ codec.Refused Device → risen → view.same old new
        → PutsRoot stopped risen old reply new
    roomless : reply ≡ codec.Refused NoMemory → view.same old new
        → PutsRoot stopped risen old reply new
    unnamed : reply ≡ codec.Refused NoMemory → Checkpoints old codec.Checkpoint new
        → PutsRoot stopped risen old reply new
    failed : reply ≡ codec.Refused Device → stopped
        → view.same old new ⊎ Checkpoints old codec.Checkpoint new
        → PutsRoot stopped risen old reply new
    unlogged : reply ≡ codec.Refused Device → stopped
        → Checkpoints old (codec.Refused NoMemory) new → PutsRoot stopped risen old reply new

  -- A split or a move was refused before a tablet was changed: with the refusal of the checkpoint before
  -- it; or after that checkpoint, since there was no room for a second one: a device failed, or memory
  -- was refused. Then replies still leave the server.
  abbrev pub RefusesRooted : (stopped risen : Type 0) → S → Refusal → S → Type 0
  RefusesRooted stopped risen old refusal new =
      PutsRoot stopped risen old (codec.Refused refusal) new
      ⊎ (Checkpoints old codec.Checkpoint new × (¬ stopped)
      × (((refusal ≡ Device) × risen) ⊎ (refusal ≡ NoMemory)))

  -- It was so refused. Or it was answered after that checkpoint, and another checkpoint may have
  -- followed.
  abbrev pub AnswersRooted : (S → Reply → S → Type 0) → (stopped risen : Type 0) → S → Reply → S
      → Type 0
  AnswersRooted answers stopped risen old reply new =
      ((refusal : Refusal) × (reply ≡ codec.Refused refusal)
      × RefusesRooted stopped risen old refusal new)
      ⊎ ((first next : S) × Checkpoints old codec.Checkpoint first × answers first reply next
      × (view.same next new ⊎ ((second : Reply) × PutsRoot stopped risen next second new)))

  -- It was refused since the log got no room, and nothing was changed: a device failed, or memory was
  -- refused.
  abbrev pub LacksRoom : (Refusal → Type 0) → Type 0 → S → S → Type 0
  LacksRoom is_refused risen old new =
      (new ≡ old) × ((is_refused Device × risen) ⊎ is_refused NoMemory)

  -- It was answered so, and no device of the log failed; or refused since the log got no room.
  abbrev pub AnswersInRoom : Type 0 → (Refusal → Type 0) → (before now : ℕ) → S → S → Type 0
  AnswersInRoom is_said is_refused before now old new =
      (is_said × (now ≡ before)) ⊎ LacksRoom is_refused (HasRisen before now) old new

  -- The replies of a server with a log are those of one without, except that checkpoints come with
  -- splits and moves, that a sweep leaves the root's files, that requests which need room in the log are
  -- refused if it has none, and that a collector makes few visits for a request.
  abbrev pub RepliesDurably : (S → Request → Reply → S → Type 0)
      → (stopped risen : Type 0) → (before now : ℕ) → S → Request → Reply → S → Type 0
  RepliesDurably says stopped risen before now old (Split row) reply new =
      AnswersRooted (λ a r b. says a (Split row) r b) stopped risen old reply new
  RepliesDurably says stopped risen before now old (Move tablet server) reply new =
      AnswersRooted (λ a r b. says a (Move tablet server) r b) stopped risen old reply new
  RepliesDurably says stopped risen before now old Sweep reply new =
      (result : Result ℕ Refusal) × (reply ≡ swept result) × SweepsNow calls stopped old result new
  RepliesDurably says stopped risen before now old Checkpoint reply new =
      PutsRoot stopped risen old reply new
  RepliesDurably says stopped risen before now old Begin reply new =
      AnswersInRoom (says old Begin reply new) (λ n. reply ≡ codec.Refused n) before now old new
  RepliesDurably says stopped risen before now old (Step start) reply new =
      AnswersInRoom (says old (Step start) reply new) (λ n. reply ≡ codec.Refused n) before now
      old new
  RepliesDurably says stopped risen before now old (CleanStep cleaner) reply new =
      AnswersInRoom (says old (CleanStep cleaner) reply new) (λ n. reply ≡ codec.Refused n) before
      now old new
  RepliesDurably says stopped risen before now old (CollectStep collector n) reply new =
      AnswersInRoom (says old (CollectStep collector (visits_of n)) reply new)
      (λ n. reply ≡ codec.Refused n) before now old new
  RepliesDurably says stopped risen before now old request reply new =
      says old request reply new

  -- The same for operations: a Commit, and a Read that begins a session, need room in the log.
  abbrev pub AnswersDurably : (S → Operation → Answer → S → Type 0)
      → (stopped risen : Type 0) → (before now : ℕ) → S → Operation → Answer → S → Type 0
  AnswersDurably says stopped risen before now old (lent.One request) (given.Said reply)
      new =
      RepliesDurably (λ a q r b. says a (lent.One q) (given.Said r) b) stopped risen before now
      old request reply new
  AnswersDurably says stopped risen before now old (lent.One request) answer new = ⊥
  AnswersDurably says stopped risen before now old (lent.Commit start writes) answer new =
      AnswersInRoom (says old (lent.Commit start writes) answer new)
      (λ n. answer ≡ given.Said (codec.Refused n)) before now old new
  AnswersDurably says stopped risen before now old (lent.Read start cells stays_open)
      answer new =
      AnswersInRoom (says old (lent.Read start cells stays_open) answer new)
      (λ n. (start ≡ 0) × (answer ≡ given.Said (codec.Refused n))) before now old new

-- the mark's file or the log has failed meanwhile
abbrev pub HasFailed : {S M L : Type 0} → MarkStore M → Log L → DurableServer S M L
    → DurableServer S M L → Type 0
HasFailed marks log old new =
    HasRisen (marks.faults old.marks.marks) (marks.faults new.marks.marks)
    ⊎ HasRisen (log.faults old.log) (log.faults new.log)

-- An answer of a server with a log: the contract of the answer, and the devices still keep a state.
pub record IsDurableAnswer {S M L : Type 0} (view : View S) (calls : RootCalls S)
    (shows : S → State → Type 0) (says : S → Operation → Answer → S → Type 0)
    (marks : MarkStore M) (log : Log L) (old : DurableServer S M L) (operation : Operation)
    (answer : Answer) (new : DurableServer S M L) : Type 0 where
  pub answered : AnswersDurably view calls says (new.is_stopped ≡ true)
      (HasFailed marks log old new)
      (log.faults old.log) (log.faults new.log) old.server operation answer new.server
  pub goes_on : GoesOn (shown_by shows) (LastsIn view log) (Logs view log)
      (operation_of operation) (answer_of answer) old new

-- with upkeep, a sweep follows a root that was put
abbrev pub SweepsAfter : {S : Type 0} → RootCalls S → Type 0 → Bool → Reply → S → S → Type 0
SweepsAfter calls stopped true codec.Checkpoint old new =
    (result : Result ℕ Refusal) × SweepsNow calls stopped old result new
SweepsAfter calls stopped upkeep reply old new = new ≡ old

-- A root was put, or refused, and the size from which the next try is counted was set, as was the count of
-- the requests. With upkeep, a sweep followed a root that was put.
pub record TriesRoot {S M L : Type 0} (view : View S) (calls : RootCalls S) (marks : MarkStore M)
    (log : Log L) (mid : S) (old new : DurableServer S M L) : Type 0 where
  pub reply : Reply
  pub next : S
  pub last : S
  pub answered : PutsRoot view calls (new.is_stopped ≡ true) (HasFailed marks log old new) mid reply
      next
  pub swept : SweepsAfter calls (new.is_stopped ≡ true) old.upkeep reply next last
  pub is_same : view.same last new.server
  pub tried : new.tried_bytes ≡ tried_at reply (view.size mid)
  pub counted : new.answered ≡ 0

-- Upkeep between two answers: that of a server without a log, and then a checkpoint if one is due by the
-- journal's size. Else one more request was answered without a try.
pub record IsDurablyTended {S M L : Type 0} (view : View S) (calls : RootCalls S)
    (shows : S → State → Type 0) (between : S → S → Type 0) (marks : MarkStore M) (log : Log L)
    (old new : DurableServer S M L) : Type 0 where
  pub mid : S
  pub tended : between old.server mid
  pub rooted : (IsRootDue old (view.size mid) × TriesRoot view calls marks log mid old new)
      ⊎ ((¬ IsRootDue old (view.size mid)) × view.same mid new.server
      × (new.tried_bytes ≡ old.tried_bytes) × (new.answered ≡ one_more old.answered))
  pub root_bytes : new.root_bytes ≡ old.root_bytes
  pub upkeep : new.upkeep ≡ old.upkeep
  pub settles : Settles (shown_by shows) (LastsIn view log) (Logs view log) old new
