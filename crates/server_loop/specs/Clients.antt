-- The answers of a server whose clients have their own sessions, cleaners and collectors.
use Rattle.std.specs.Prelude.{◌≡◌, ◌≢◌, ℕ, true, false, ◌&&◌, ◌||◌, not, nat_eq, List, [], ◌∷◌, ◌++◌, Option, None, Some, Result, Err, ⊤}
use Rattle.std.specs.List.{AllByRecursion}
use Rattle.std.specs.Io.KnownBytes.{Consumes, Appends}
use Rattle.cell_key.specs.declared.refusals.Refusal.{Refusal}
use Rattle.cell_key.specs.declared.refusals.Refusal.TheVariants.{BadRequest, FrameTooLarge, NoMemory, UnknownSession}
use Rattle.si_model.specs.Machine.{State, IsReached, Refused, Stop, StopDone}
use Rattle.si_model.specs.Transactions.{Operation, One, Answer, Said, Goes}
use Rattle.request_codec.specs.Answers.{answer_of}
use Rattle.request_codec.specs.Operations.{operation_of}
use Rattle.request_codec.specs.Stream.{frame, frames, BeginsNoFrame, IsBody}
use Rattle.request_codec.specs.declared.answers.Answer.{Answer as CodecAnswer}
use Rattle.request_codec.specs.declared.operations.Operation.{Operation as Lent}
use Rattle.ownership.specs.Effects.{may_close}
use Rattle.ownership.specs.Frames.{IsBodyOf, client_body}
use Rattle.ownership.specs.Names.{gives, is_name, is_open, is_session, name_of, same_name}
use Rattle.ownership.specs.Tables.{Knows, heir_of, owns, refusal_for, table_of}
use Rattle.ownership.specs.Turns.{Frame, Asks, Leaves, Malformed, NoClient, TooLarge, TakesMemory, Exchange, HandlesAll}
use Rattle.ownership.specs.declared.names.Name.{Name}
use Rattle.ownership.specs.declared.names.Name.TheVariants.{Session}
use Rattle.server_loop.specs.Batches.{AnswersAll, IsBatch}
use Rattle.server_loop.specs.Runs.{Taken, Body, Oversize, IfAnswerRefused, ObeysLaws}
use Rattle.server_loop.specs.Serve.{as_write, EndsBy, TakesBodies}
use Rattle.server_loop.specs.declared.client_server.ClientServer.{ClientServer}
use Rattle.server_loop.specs.declared.statuses.End.{End}
use Rattle.server_loop.specs.declared.statuses.ServeFault.{ServeFault}
use Rattle.server_loop.specs.declared.statuses.ServeFault.TheVariants as faults

-- its server shows the state, and its table has the owners of what is open there
abbrev pub ShowsOwned : {S : Type 0} → (S → State → Type 0) → ClientServer S → State → Type 0
ShowsOwned shows server st = shows server.server st × Knows (table_of server.owners) st

-- the same server, and the same owners
pub record Unchanged {S : Type 0} (old new : ClientServer S) : Type 0 where
  pub server : new.server ≡ old.server
  pub table : table_of new.owners ≡ table_of old.owners

-- the frame that is taken says this
abbrev pub IsFrameOf : Frame → Taken → Type 0
IsFrameOf frame (Body body) = IsBodyOf frame body
IsFrameOf frame Oversize = frame ≡ TooLarge

module _ {S : Type 0} (shows : S → State → Type 0)
    (says : S → Lent → CodecAnswer → S → Type 0) where
  -- ---- an answer of the server inside

  -- It fulfils the contract of an answer, and the machine goes so from each reached state that is shown.
  pub record IsSaid (old : S) (operation : Operation) (answer : Answer) (new : S) : Type 0 where
    pub lent : Lent
    pub given : CodecAnswer
    pub is_operation : operation ≡ operation_of lent
    pub is_answer : answer ≡ answer_of given
    pub said : says old lent given new
    pub goes : (before : State) → IsReached before → shows old before
        → (after : State) × Goes before operation answer after × shows new after

  -- ---- the end of a client

  -- One of the client's sessions was stopped, and is nobody's.
  pub record StopsOne (client : ℕ) (old : ClientServer S) (start : ℕ) (new : ClientServer S)
      : Type 0 where
    pub its : owns (table_of old.owners) client (Session start) ≡ true
    pub answer : Answer
    pub said : IsSaid old.server (One (Stop start)) answer new.server
    pub known : IfAnswerRefused (λ refusal. refusal ≡ UnknownSession) answer
    pub noted : (other : ℕ) (name : Name) → owns (table_of new.owners) other name
        ≡ (owns (table_of old.owners) other name
        && not (nat_eq client other && same_name (Session start) name))

  -- These were stopped, one after the other.
  abbrev pub StopsEach : ℕ → ClientServer S → List ℕ → ClientServer S → Type 0
  StopsEach client old [] new = new ≡ old
  StopsEach client old (start ∷ more) new =
      (mid : ClientServer S) × StopsOne client old start mid × StopsEach client mid more new

  -- All of the client's sessions were stopped, and its cleaners and collectors passed to the heir.
  pub record EndsClient (client : ℕ) (old new : ClientServer S) : Type 0 where
    pub starts : List ℕ
    pub mid : ClientServer S
    pub stopped : StopsEach client old starts mid
    pub none : (start : ℕ) → owns (table_of mid.owners) client (Session start) ≡ false
    pub server : new.server ≡ mid.server
    pub passed : (other : ℕ) (name : Name) → owns (table_of new.owners) other name
        ≡ ((owns (table_of mid.owners) other name
        && (is_session name || not (nat_eq client other)))
        || (nat_eq (heir_of old.admin) other && owns (table_of mid.owners) client name
        && not (is_session name)))

  -- ---- a frame

  -- What is a client's after an answer, as its table has it: without what was closed, and with what the answer gave.
  -- Only what the operation named may have been closed, and it was if it is open no more.
  pub record NotesAnswer (client : ℕ) (operation : Operation) (answer : Answer)
      (old new : ClientServer S) : Type 0 where
    pub closed : Option Name
    pub noted : (other : ℕ) (name : Name) → owns (table_of new.owners) other name
        ≡ ((owns (table_of old.owners) other name
        && not (nat_eq client other && is_name closed name))
        || (nat_eq client other && gives operation answer name))
    pub named : (name : Name) → is_name closed name ≡ true
        → (may_close operation answer && is_name (name_of operation) name) ≡ true
    pub ended : (st : State) → shows new.server st → (name : Name) → is_name closed name
        ≡ (may_close operation answer && (is_name (name_of operation) name && not (is_open st name)))

  -- A frame is answered to a client: by one answer of the server inside, by none, or by the Stops of an end.
  pub data HandlesFrame (old new : ClientServer S) : Frame → ℕ → Answer → Type 0 where
    asks : {client : ℕ} {operation : Operation} {answer : Answer}
        → refusal_for old.admin (table_of old.owners) client operation ≡ None
        → IsSaid old.server operation answer new.server
        → NotesAnswer client operation answer old new
        → HandlesFrame old new (Asks client operation) client answer
    refuses : {client : ℕ} {operation : Operation} {refusal : Refusal}
        → refusal_for old.admin (table_of old.owners) client operation ≡ Some refusal
        → Unchanged old new
        → HandlesFrame old new (Asks client operation) client (Said (Refused refusal))
    lacks_memory : {client : ℕ} {operation : Operation} → TakesMemory operation → Unchanged old new
        → HandlesFrame old new (Asks client operation) client (Said (Refused NoMemory))
    leaves : {client : ℕ} → EndsClient client old new
        → HandlesFrame old new (Leaves client) client (Said StopDone)
    is_malformed : {client : ℕ} → Unchanged old new
        → HandlesFrame old new (Malformed client) client (Said (Refused BadRequest))
    has_no_client : Unchanged old new → HandlesFrame old new NoClient 0 (Said (Refused BadRequest))
    is_too_large : Unchanged old new
        → HandlesFrame old new TooLarge 0 (Said (Refused FrameTooLarge))

  -- A frame that says this is so answered, and the frame of the reply is appended to those that wait.
  pub record RepliesTo (said : Frame) (old new : ClientServer S) (waiting waiting' : List ℕ)
      : Type 0 where
    pub to : ℕ
    pub answer : Answer
    pub handled : HandlesFrame old new said to answer
    pub admin : new.admin ≡ old.admin
    pub appended : waiting' ≡ waiting ++ frame (client_body to answer)

  -- A frame is so answered.
  pub record AnswersFrame (old : ClientServer S) (taken : Taken) (to : ℕ) (answer : Answer)
      (new : ClientServer S) : Type 0 where
    pub frame : Frame
    pub is_frame : IsFrameOf frame taken
    pub handled : HandlesFrame old new frame to answer
    pub admin : new.admin ≡ old.admin

-- A frame is so answered, with a reply of this body, and the upkeep of the server inside follows.
pub record IsAnsweredTo {S : Type 0} (shows : S → State → Type 0)
    (says : S → Lent → CodecAnswer → S → Type 0) (between : S → S → Type 0)
    (old : ClientServer S) (taken : Taken) (body : List ℕ) (new : ClientServer S) : Type 0 where
  pub to : ℕ
  pub answer : Answer
  pub is_body : body ≡ client_body to answer
  pub mid : ClientServer S
  pub answered : AnswersFrame shows says old taken to answer mid
  pub tended : between mid.server new.server
  pub shown : (st : State) → shows mid.server st → shows new.server st
  pub owners : new.owners ≡ mid.owners
  pub admin : new.admin ≡ mid.admin

-- the answers of the server inside were settled, or were not; the owners stay
pub record SettlesOwned {S : Type 0} (settles : S → S → Type 0) (old new : ClientServer S)
    : Type 0 where
  pub settled : settles old.server new.server
  pub owners : new.owners ≡ old.owners
  pub admin : new.admin ≡ old.admin

-- ---- a call

-- all replies were written, unless a write or the log failed
abbrev pub WritesAll : Result End ServeFault → List ℕ → Type 0
WritesAll (Err faults.Write) more = ⊤
WritesAll (Err faults.Log) more = ⊤
WritesAll result more = more ≡ []

-- Bytes were read, and cut into bodies and a rest. Each body was answered, and so was a length past the limit. The
-- replies were written whole, except that of those of a last batch only a part may have been.
pub record ServesFrames {S : Type 0} (answers : S → Taken → List ℕ → S → Type 0) (most : ℕ)
    (old new : S) (left left' held held' : Option (List ℕ)) (most_reads : ℕ)
    (result : Result End ServeFault) : Type 0 where
  pub read : List ℕ
  pub consumed : Consumes left left' read
  pub rest : List ℕ
  pub open_rest : as_write result ≢ Err faults.Write → BeginsNoFrame rest
  pub bodies : List (List ℕ)
  pub whole : read ≡ frames bodies ++ rest
  pub each : AllByRecursion IsBody bodies
  pub taken : List Taken
  pub takes : TakesBodies (as_write result) bodies rest taken
  pub front : List (List ℕ)
  pub batch : List (List ℕ)
  pub answered : AnswersAll answers old taken (front ++ batch) new
  pub small : IsBatch most batch
  pub part : List ℕ
  pub more : List ℕ
  pub parts : frames batch ≡ part ++ more
  pub written : WritesAll result more
  pub appended : Appends held held' (frames front ++ part)
  pub ending : EndsBy (as_write result) most_reads read rest left' held held'

-- these are the frames that were taken, and the bodies of their replies
abbrev pub AreExchanges : List Exchange → List Taken → List (List ℕ) → Type 0
AreExchanges [] [] [] = ⊤
AreExchanges (x ∷ xs) (taken ∷ more) (body ∷ bodies) =
    IsFrameOf x.frame taken × (body ≡ client_body x.to x.answer) × AreExchanges xs more bodies
AreExchanges xs taken bodies = ⊥

-- The machine handled the frames, each its client's, from a state to one that is shown and obeys the laws.
pub record HandlesTo {S : Type 0} (shows : S → State → Type 0) (before : State)
    (old new : ClientServer S) (taken : List Taken) (replies : List (List ℕ)) : Type 0 where
  pub exchanges : List Exchange
  pub are : AreExchanges exchanges taken replies
  pub after : State
  pub handled : HandlesAll old.admin before (table_of old.owners) exchanges after
      (table_of new.owners)
  pub reached : IsReached after
  pub laws : ObeysLaws after
  pub shown : ShowsOwned shows new after

-- The contract of `serve` for several clients: each frame was answered to its client, and, from each reached state
-- that is shown before, the machine handled all of them.
pub record ServesClients {S : Type 0} (shows : S → State → Type 0)
    (says : S → Lent → CodecAnswer → S → Type 0) (between : S → S → Type 0) (most : ℕ)
    (old new : ClientServer S) (left left' held held' : Option (List ℕ)) (most_reads : ℕ)
    (result : Result End ServeFault) : Type 0 where
  pub served : ServesFrames (IsAnsweredTo shows says between) most old new left left' held held'
      most_reads result
  pub handled : (before : State) → IsReached before → ShowsOwned shows old before
      → HandlesTo shows before old new served.taken (served.front ++ served.batch)
