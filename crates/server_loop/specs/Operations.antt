-- The contract of an answer to an operation: one request, a Commit or a Read.
use Rattle.std.specs.Prelude.{◌≡◌, ◌≢◌, ◌⊎◌, ℕ, List, Bool, Option, None, Result, Ok, Err, IfOk, IsErrOf, length}
use Rattle.cell_key.specs.declared.refusals.Refusal.{Refusal}
use Rattle.cell_key.specs.declared.refusals.Refusal.TheVariants.{BadCount, Device, Exhausted, MemtableFull}
use Rattle.file_store.specs.Store.{Contents}
use Rattle.file_store.specs.declared.files.Files.{Ghosts as Files}
use Rattle.oracle.specs.declared.marks.MarkStore.{Ghosts as MarkStore}
use Rattle.oracle.specs.Ranges.{next_range_end}
use Rattle.request_codec.specs.Answers.{answer_of, HoldsAnswerWithinLimits}
use Rattle.request_codec.specs.declared.answers.Answer.{Answer as CodecAnswer}
use Rattle.request_codec.specs.declared.answers.Answer.TheVariants as given
use Rattle.request_codec.specs.declared.operations.Operation.{Operation as Lent}
use Rattle.request_codec.specs.declared.operations.Operation.TheVariants as lent
use Rattle.request_codec.specs.declared.replies.Reply.TheVariants as codec
use Rattle.row_atomic.specs.Clusters.{storage_of}
use Rattle.row_atomic.specs.Recorded.{logged_of, seen_recorded}
use Rattle.rows.specs.Calls.{AreReadableFrom, OnlyReads}
use Rattle.si_model.specs.Answers.{cells_named, writes_named, told_items}
use Rattle.si_model.specs.Machine.{IsReached, State, Writes}
use Rattle.si_model.specs.Transactions.{Operation, Commit, Read, IsReadCount}
use Rattle.si_model.specs.declared.replies.Cell.{Cell}
use Rattle.si_model.specs.declared.transactions.CommitReply.{CommitReply}
use Rattle.si_model.specs.declared.transactions.ReadReply.{ReadReply}
use Rattle.server_loop.specs.Answer.{IsAnswer}
use Rattle.server_loop.specs.Resting.{RestsAt}
use Rattle.server_loop.specs.Runs.{GoesFrom, IfAnswerRefused}
use Rattle.server_loop.specs.Server.{IsFaultSeen, SeesNoFault, Shows, server_cells, cluster_of, journal_of, last_of, marks_of, rows_of, tending_of}
use Rattle.server_loop.specs.Sessions.{LeavesMark}
use Rattle.server_loop.specs.declared.server.Server.{Server}
use Rattle.txn_client.specs.CellReads.{AreRead}
use Rattle.txn_client.specs.Commits.{BeganAt, CommitDoes, CommitDraws, HasNoRoomToCommit, LacksStamps}
use Rattle.txn_client.specs.Shows.{SameClients}
use Rattle.txn_client.specs.Transactions.{DrawsSession, IsCommitRefusal, IsReadRequestRefusal, SessionCauses}

-- the answers that the results of the sessions' calls give
abbrev pub commit_given : Result CommitReply Refusal → CodecAnswer
commit_given (Ok reply) = given.Commit reply
commit_given (Err refusal) = given.Said (codec.Refused refusal)

abbrev pub read_given : Result ReadReply Refusal → CodecAnswer
read_given (Ok reply) = given.Read reply
read_given (Err refusal) = given.Said (codec.Refused refusal)

-- ---- what a Commit and a Read have in common

-- They leave the cleaners and the collectors, everything below the memtables, the upkeep, and the part of the journal
-- that the log has.
pub record LeavesOthers {F M W : Type 0} (contents : F → Option Contents)
    (old new : Server F M W) : Type 0 where
  pub cleaners : new.cleaners ≡ old.cleaners
  pub collectors : new.collectors ≡ old.collectors
  pub storage : storage_of contents (cluster_of new) ≡ storage_of contents (cluster_of old)
  pub tending : tending_of new ≡ tending_of old
  pub logged : logged_of (journal_of new) ≡ logged_of (journal_of old)

-- A refusal also leaves the sessions, the rows and the last stamp. The mark is unchanged, or the end of the oracle's
-- next range, which may have begun.
pub record LeavesAll {F M W : Type 0} (contents : F → Option Contents) (mark : M → Option ℕ)
    (old new : Server F M W) : Type 0 where
  pub sessions : SameClients old.clients new.clients
  pub rows : OnlyReads (seen_recorded contents) (rows_of old) (rows_of new)
  pub last : last_of new ≡ last_of old
  pub range : (new.oracle.range_end ≡ old.oracle.range_end)
      ⊎ (new.oracle.range_end ≡ next_range_end old.oracle.range_end)
  pub marked : LeavesMark mark old new

-- The machine goes so, and the answer is within the limits. A device's fault is answered if and only if a count of
-- faults rose.
pub record AnswersAtOnce {F M W : Type 0} (files : Files F W) (marks : MarkStore M)
    (operation : Operation) (IsOwnRefusal : Refusal → Type 0) (old : Server F M W)
    (answer : CodecAnswer) (new : Server F M W) : Type 0 where
  pub goes : GoesFrom (Shows files.contents) old new operation (answer_of answer)
  pub refusal : IfAnswerRefused IsOwnRefusal (answer_of answer)
  pub limits : HoldsAnswerWithinLimits (answer_of answer)
  pub others : LeavesOthers files.contents old new
  pub refused : IfAnswerRefused (λ _. LeavesAll files.contents marks.mark old new)
      (answer_of answer)
  pub device : answer ≡ given.Said (codec.Refused Device)
      → IsFaultSeen files.faults marks.faults old new
  pub told : ¬ (answer ≡ given.Said (codec.Refused Device))
      → SeesNoFault files.faults marks.faults old new

-- after a refusal the server rests at the state at which it rested before
abbrev pub StaysAtRest : {F M W : Type 0} → (F → Option Contents) → (M → Option ℕ) → CodecAnswer
    → Server F M W → Server F M W → Type 0
StaysAtRest contents mark answer old new =
    IfAnswerRefused (λ _. (st : State) → IsReached st → RestsAt contents mark old st
    → RestsAt contents mark new st) (answer_of answer)

-- ---- a Commit

-- The contract of an answer to a Commit, without the part on resting. It puts all of the session's writes, or only
-- reads. Its stamps are the oracle's next ones. Refusals that need no memory are always answered.
pub record IsPlainCommit {F M W : Type 0} (files : Files F W) (marks : MarkStore M)
    (old : Server F M W) (start : ℕ) (writes : Writes) (answer : CodecAnswer)
    (new : Server F M W) : Type 0 where
  pub result : Result CommitReply Refusal
  pub gives : answer ≡ commit_given result
  pub at_once : AnswersAtOnce files marks (Commit start writes) IsCommitRefusal old answer new
  pub does : IfOk result (CommitDoes (seen_recorded files.contents)
      old.clients (last_of old) start writes (rows_of old) (rows_of new))
  pub draws : IfOk result (CommitDraws (last_of old) (last_of new) start)
  pub named : start ≢ 0 → (st : State) → Shows files.contents old st
      → IfOk result (BeganAt start)
  pub causes : (st : State) → Shows files.contents old st → SessionCauses st start result
  -- Exhausted: the stamps that it would draw aren't there.
  pub exhausted : IsErrOf result Exhausted → LacksStamps (last_of old) start
  -- MemtableFull: the edits of all writes have no room in the memtables.
  pub full : IsErrOf result MemtableFull → HasNoRoomToCommit (seen_recorded files.contents)
      old.clients (last_of old) start writes (rows_of old)

pub record IsCommitAnswer {F M W : Type 0} (files : Files F W) (marks : MarkStore M)
    (old : Server F M W) (start : ℕ) (writes : Writes) (answer : CodecAnswer)
    (new : Server F M W) : Type 0 where
  pub plain : IsPlainCommit files marks old start writes answer new
  pub rested : StaysAtRest files.contents marks.mark answer old new

-- ---- a Read

-- The contract of an answer to a Read, without the part on resting. It changes no cell, and says of each cell what its
-- session reads there, whatever the cells contain. A new session begins with the oracle's next stamp; the oracle has no
-- part in a session that is named.
pub record IsPlainRead {F M W : Type 0} (files : Files F W) (marks : MarkStore M)
    (old : Server F M W) (start : ℕ) (cells : List Cell) (stays_open : Bool)
    (answer : CodecAnswer) (new : Server F M W) : Type 0 where
  pub result : Result ReadReply Refusal
  pub gives : answer ≡ read_given result
  pub at_once : AnswersAtOnce files marks (Read start cells stays_open) IsReadRequestRefusal old
      answer new
  pub reads : OnlyReads (seen_recorded files.contents) (rows_of old) (rows_of new)
  pub found : AreReadableFrom (seen_recorded files.contents) (rows_of old) None
      → IfOk result (λ reply. AreRead (server_cells files.contents old) reply.start 0 cells
      (told_items reply.found.items))
  pub session : IfOk result (λ reply.
      DrawsSession old.clients (last_of old) (last_of new) start reply.start)
  pub aside : start ≢ 0 → new.oracle ≡ old.oracle
  pub count : ¬ IsReadCount (length cells) → IsErrOf result BadCount
  pub causes : IsReadCount (length cells) → (st : State) → Shows files.contents old st
      → SessionCauses st start result
  pub exhausted : IsErrOf result Exhausted → last_of old ≡ 9_223_372_036_854_775_807

pub record IsReadAnswer {F M W : Type 0} (files : Files F W) (marks : MarkStore M)
    (old : Server F M W) (start : ℕ) (cells : List Cell) (stays_open : Bool)
    (answer : CodecAnswer) (new : Server F M W) : Type 0 where
  pub plain : IsPlainRead files marks old start cells stays_open answer new
  pub rested : StaysAtRest files.contents marks.mark answer old new

-- ---- an operation

-- The contract of an answer to an operation. One request has a reply.
abbrev pub IsAnswerTo : {F M W : Type 0} → Files F W → MarkStore M → Server F M W → Lent
    → CodecAnswer → Server F M W → Type 0
IsAnswerTo files marks old (lent.One request) (given.Said reply) new =
    IsAnswer files marks old request reply new
IsAnswerTo files marks old (lent.One request) answer new = ⊥
IsAnswerTo files marks old (lent.Commit start writes) answer new =
    IsCommitAnswer files marks old start (writes_named writes.items) answer new
IsAnswerTo files marks old (lent.Read start cells stays_open) answer new =
    IsReadAnswer files marks old start (cells_named cells.items) stays_open answer new
