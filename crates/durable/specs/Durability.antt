-- The answers that survive a kill, of a server whose replies wait until their batch is settled.
use Rattle.std.specs.Prelude.{◌≡◌, ◌⊎◌, ℕ, ◌≤◌, List, [], ◌++◌, length, take, Option, Some, Result, Err, ⊤}
use Rattle.std.specs.Io.KnownBytes.{Appends}
use Rattle.cell_key.specs.declared.refusals.Refusal.TheVariants.{Damaged}
use Rattle.si_model.specs.Machine.{State, Refused, IsReached}
use Rattle.si_model.specs.Transactions.{Operation, Answer, Said, Goes}
use Rattle.request_codec.specs.declared.answers.Answer.{Answer as CodecAnswer}
use Rattle.request_codec.specs.declared.operations.Operation.{Operation as Lent}
use Rattle.server_loop.specs.Runs.{Taken, RunOver}
use Rattle.server_loop.specs.Serve.{as_write, written_of, Serves}
use Rattle.server_loop.specs.declared.statuses.End.{End}
use Rattle.server_loop.specs.declared.statuses.ServeFault.{ServeFault}
use Rattle.server_loop.specs.declared.statuses.ServeFault.TheVariants as faults

-- The machine's state after a prefix of the requests taken survives a kill. The prefix contains each
-- request of whose reply a byte was written.
pub record KeepsBeginning (lasts : State → Type 0) (before : State) (taken : List Taken)
    (answers : List Answer) (written : List ℕ) : Type 0 where
  pub count : ℕ
  pub after : State
  pub run : RunOver before (take count taken) (take count answers) after
  pub reached : IsReached after
  pub lasting : lasts after
  pub replied : length written ≤ length (written_of (take count answers))

-- all replies were written, unless a write or the log failed
abbrev pub IsAllWritten : Result End ServeFault → List ℕ → Type 0
IsAllWritten (Err faults.Write) more = ⊤
IsAllWritten (Err faults.Log) more = ⊤
IsAllWritten result more = more ≡ []

module _ {S : Type 0} (shows lasts : S → State → Type 0) (logs : S → Type 0) where
  -- Its log and its journal agree, and the devices keep each state that is shown.
  abbrev pub IsSettled : S → Type 0
  IsSettled server = logs server × ((st : State) → shows server st → lasts server st)

  -- if old is settled and shows a reached state, new is settled
  abbrev pub StaysSettled : S → S → Type 0
  StaysSettled old new =
      (now : State) → IsReached now → shows old now → IsSettled old → IsSettled new

  -- From a state that is shown the machine goes to one that is shown. If the devices kept a state,
  -- they keep it, or the state before, or the one after.
  pub record StepsOn (operation : Operation) (answer : Answer) (old new : S) (now : State)
      : Type 0 where
    pub next : State
    pub goes : Goes now operation answer next
    pub shown : shows new next
    pub whole : answer ≡ Said (Refused Damaged) → ⊥
    pub logged : logs old → logs new
    pub lasting : logs old → (st : State) → lasts old st
        → lasts new st ⊎ (lasts new now ⊎ lasts new next)

  abbrev pub GoesOn : Operation → Answer → S → S → Type 0
  GoesOn operation answer old new =
      (now : State) → IsReached now → shows old now → StepsOn operation answer old new now

  -- Each state that was shown still is. If the devices kept a state, they keep it or the shown one.
  pub record Settles (old new : S) : Type 0 where
    pub shown : (st : State) → shows old st → shows new st
    pub logged : (now : State) → IsReached now → shows old now → logs old → logs new
    pub lasting : (now : State) → IsReached now → shows old now → logs old → (st : State)
        → lasts old st → lasts new st ⊎ lasts new now

module _ {S : Type 0} (shows : S → State → Type 0) (between : S → S → Type 0)
    (lasts : S → State → Type 0) (logs : S → Type 0) where
  -- The answers were settled: the devices keep the state that is shown. It belongs to the upkeep before it.
  pub record SettlesAnswers (old new : S) : Type 0 where
    pub joins : (first : S) → between first old → between first new
    pub shown : (st : State) → shows old st → shows new st
    pub settled : (now : State) → IsReached now → shows old now → logs old
        → IsSettled shows lasts logs new

  -- They could not be settled: the devices keep the state that they kept, or the shown one.
  pub record FailsToSettle (old new : S) : Type 0 where
    pub joins : (first : S) → between first old → between first new
    pub shown : (st : State) → shows old st → shows new st
    pub kept : (now : State) → IsReached now → shows old now → logs old → (st : State)
        → lasts old st → lasts new st ⊎ lasts new now

module _ {S : Type 0} (shows : S → State → Type 0) (says : S → Lent → CodecAnswer → S → Type 0)
    (between : S → S → Type 0) (lasts : S → State → Type 0) (logs : S → Type 0) where
  -- The effect of a call of `serve`: it served as if into a buffer, which holds the frames of the
  -- replies, and wrote a prefix of them. Whatever its result, if the server was settled, a prefix of the
  -- requests taken leads from each state that was shown to one that the devices keep.
  pub record ServesDurably (old new : S) (left left' held held' : Option (List ℕ)) (most_reads : ℕ)
      (result : Result End ServeFault) : Type 0 where
    pub buffer : List ℕ
    pub served : Serves shows says between old new left left' (Some []) (Some buffer) most_reads
        (as_write result)
    pub framed : buffer ≡ written_of served.handled.replies
    pub written : List ℕ
    pub more : List ℕ
    pub parts : buffer ≡ written ++ more
    pub whole : IsAllWritten result more
    pub appended : Appends held held' written
    pub kept : IsSettled shows lasts logs old → (before : State) → IsReached before
        → shows old before
        → KeepsBeginning (lasts new) before served.handled.taken served.handled.replies written
