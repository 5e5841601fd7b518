-- What one server among several promises of an answer, whatever others do.
use Rattle.std.specs.Prelude.{◌≡◌, ◌≢◌, ◌≤◌, ◌+◌, ◌⊎◌, ℕ, Bool, IfOk, true, false, Option, None, Some, Result}
use Rattle.cell_key.specs.Faults.{HasRisen}
use Rattle.cell_key.specs.declared.refusals.Refusal.{Refusal}
use Rattle.cell_key.specs.declared.refusals.Refusal.TheVariants.{BadRequest, Device}
use Rattle.clean_up.specs.Shows.{SameCleaners}
use Rattle.request_codec.specs.Replies.{replied, HoldsWithinLimits}
use Rattle.request_codec.specs.Requests.{asked}
use Rattle.request_codec.specs.declared.answers.Answer.{Answer}
use Rattle.request_codec.specs.declared.answers.Answer.TheVariants as given
use Rattle.request_codec.specs.declared.operations.Operation.{Operation}
use Rattle.request_codec.specs.declared.operations.Operation.TheVariants as lent
use Rattle.request_codec.specs.declared.replies.Reply.{Reply}
use Rattle.request_codec.specs.declared.replies.Reply.TheVariants as codec
use Rattle.request_codec.specs.declared.requests.Request.{Request}
use Rattle.request_codec.specs.declared.requests.Request.TheVariants.{Begin, Get, Set, Delete, Scan, Step, Stop, CleanBegin, CleanStep, CollectBegin, CollectStep}
use Rattle.rows.specs.Calls.{OnlyReads}
use Rattle.rows.specs.Sources.{IsDrawRefusal, Source}
use Rattle.rows.specs.declared.rows.Rows.{Ghosts as Rows}
use Rattle.rows.specs.declared.stamps.Stamps.{Ghosts as Stamps}
use Rattle.server_loop.specs.Refusals.{IsRefusalOfRequest}
use Rattle.server_loop.specs.Runs.{IfRefused, StepsAs}
use Rattle.server_loop.specs.Sessions.{IsAlwaysTold}
use Rattle.servers_model.specs.Servers.{ShowsServer}
use Rattle.servers_model.specs.Serves.{BeginsCollector, MayPublish, Serves}
use Rattle.si_model.specs.Machine as machine
use Rattle.si_model.specs.Machine.{State, Collecting}
use Rattle.si_model.specs.Replies.{result_reply}
use Rattle.txn_client.specs.Shows.{SameClients}
use Rattle.version_collector.specs.Refusals as collectors
use Rattle.version_collector.specs.Shows.{SameCollectors}
use Rattle.row_server.specs.Server.{Shows, memory_of}
use Rattle.row_server.specs.declared.server.RowServer.{RowServer}

-- ---- the requests that are offered

-- the requests of sessions, cleaners and collectors
abbrev pub is_offered : Request → Bool
is_offered Begin = true
is_offered (Get start row family) = true
is_offered (Set start row family value) = true
is_offered (Delete start row family) = true
is_offered (Scan start range keys_only cells) = true
is_offered (Step start) = true
is_offered (Stop start) = true
is_offered (CleanBegin row family) = true
is_offered (CleanStep cleaner) = true
is_offered CollectBegin = true
is_offered (CollectStep collector visits) = true
is_offered request = false

-- the refusal of what isn't offered, by the last stamp if nobody else draws
abbrev pub IsUnoffered : Option ℕ → Refusal → Type 0
IsUnoffered None refusal = refusal ≡ BadRequest
IsUnoffered (Some last) refusal = refusal ≡ Device

-- the refusals of a request that is offered: a CollectBegin may also fail to publish a floor
abbrev pub IsRefusalHere : Request → Refusal → Type 0
IsRefusalHere CollectBegin refusal = collectors.IsBeginRefusal refusal ⊎ IsDrawRefusal refusal
IsRefusalHere request refusal = IsRefusalOfRequest request refusal

module _ {R S : Type 0} (rows : Rows R) (forgot : R → Type 0) (raced : R → Bool)
    (stamps : Stamps S) (allows : S → ℕ → Type 0) where
  -- ---- a request that is made once

  -- The same cells, sessions, cleaners and collectors. A stamp may have been drawn that nobody was told.
  pub record LeavesAll (old new : RowServer R S) : Type 0 where
    pub reads : OnlyReads rows.seen old.rows new.rows
    pub clients : SameClients old.clients new.clients
    pub cleaners : SameCleaners old.cleaners new.cleaners
    pub collectors : SameCollectors old.collectors new.collectors
    pub rises : stamps.source.last old.stamps ≤ stamps.source.last new.stamps

  -- A collector begins, or is refused. Its floor isn't above a floor that this server may publish, nor above any that a
  -- server has published.
  pub record BeginsHere (old : RowServer R S) (reply : Reply) (new : RowServer R S) : Type 0 where
    pub published : ℕ
    pub may : MayPublish old.clients published
    pub floor : ℕ
    pub low : floor ≤ published
    pub result : Result ℕ Refusal
    pub allowed : IfOk result (λ _. allows new.stamps floor)
    pub begins : BeginsCollector old.collectors floor result new.collectors
    pub replies : replied reply ≡ result_reply (λ number. Collecting number floor) result
    pub cells : rows.seen.cells new.rows ≡ rows.seen.cells old.rows
    pub clients : new.clients ≡ old.clients
    pub cleaners : new.cleaners ≡ old.cleaners

  -- What a server promises in the merged run of several, over the cells and the last stamp as they are then.
  pub data ServesHere (old : RowServer R S) : Request → Reply → RowServer R S → Type 0 where
    begins_collector : {reply : Reply} {new : RowServer R S} → BeginsHere old reply new
        → ServesHere old CollectBegin reply new
    serves : {request : Request} {reply : Reply} {new : RowServer R S}
        → asked request ≢ machine.CollectBegin
        → (rows.seen.holds old.rows
        → Serves (rows.seen.cells old.rows) (memory_of old) (stamps.source.last old.stamps)
        (asked request) (replied reply)
        (rows.seen.cells new.rows) (memory_of new) (stamps.source.last new.stamps))
        → ServesHere old request reply new

  -- a device has failed, of the rows or of the stamps
  abbrev pub IsFaultSeen : RowServer R S → RowServer R S → Type 0
  IsFaultSeen old new =
      HasRisen (rows.faults old.rows) (rows.faults new.rows)
      ⊎ HasRisen (stamps.faults old.stamps) (stamps.faults new.stamps)

  -- a request that is offered
  pub record IsOfferedReply (old : RowServer R S) (request : Request) (reply : Reply)
      (new : RowServer R S) : Type 0 where
    pub serves : ServesHere old request reply new
    pub refusal : IfRefused (IsRefusalHere request) (replied reply)
    -- a refusal changes nothing
    pub leaves : IfRefused (λ _. LeavesAll old new) (replied reply)
    -- some refusals are always given, and Device only if a device failed
    pub told : (st : State) → ShowsServer (rows.seen.cells old.rows) (memory_of old) st
        → IsAlwaysTold request reply st
    pub device : reply ≡ codec.Refused Device → IsFaultSeen old new

  -- a request that isn't offered is refused, and changes nothing
  pub record IsUnofferedReply (old : RowServer R S) (reply : Reply) (new : RowServer R S)
      : Type 0 where
    pub why : Refusal
    pub is : IsUnoffered (stamps.source.known old.stamps) why
    pub refused : reply ≡ codec.Refused why
    pub leaves : LeavesAll old new

  abbrev pub IsServed : Bool → RowServer R S → Request → Reply → RowServer R S → Type 0
  IsServed true old request reply new = IsOfferedReply old request reply new
  IsServed false old request reply new = IsUnofferedReply old reply new

  -- A request is made, over rows of which nothing was read before.
  pub record IsMadeOnce (old : RowServer R S) (request : Request) (reply : Reply)
      (new : RowServer R S) : Type 0 where
    pub served : IsServed (is_offered request) old request reply new
    pub still : rows.seen.holds old.rows → rows.seen.holds new.rows
    -- if nobody else uses rows and stamps, it is a step of the machine
    pub step : StepsAs (Shows rows.seen stamps.source) old new (asked request) (replied reply)
    pub limits : HoldsWithinLimits (replied reply)

  -- What was read is forgotten, and then the request is made.
  pub record IsAttempt (old : RowServer R S) (request : Request) (reply : Reply)
      (new : RowServer R S) : Type 0 where
    pub fresh : R
    pub is_forgot : forgot fresh
    pub reads : OnlyReads rows.seen old.rows fresh
    pub same_faults : rows.faults fresh ≡ rows.faults old.rows
    pub made : IsMadeOnce (record old { rows = fresh }) request reply new

  -- ---- an answer

  -- the most attempts of a request
  abbrev pub most_attempts : ℕ
  most_attempts = 1000

  -- It was refused each of so many times, because others had changed its row.
  pub data FailedAttempts (request : Request) : ℕ → RowServer R S → RowServer R S → Type 0 where
    no_attempt : {server : RowServer R S} → FailedAttempts request 0 server server
    one_more : {count : ℕ} {old mid new : RowServer R S} {refusal : Refusal}
        → FailedAttempts request count old mid
        → IsAttempt mid request (codec.Refused refusal) new → raced new.rows ≡ true
        → FailedAttempts request (count + 1) old new

  -- The request is made again as long as it is refused because others changed its row, and the last reply is the answer.
  -- In the merged run each attempt is a request of its own: others may come between.
  pub record Attempts (old : RowServer R S) (request : Request) (reply : Reply)
      (new : RowServer R S) : Type 0 where
    pub count : ℕ
    pub mid : RowServer R S
    pub failed : FailedAttempts request count old mid
    pub last : IsAttempt mid request reply new
    pub enough : IfRefused (λ _. raced new.rows ≡ true → count + 1 ≡ most_attempts)
        (replied reply)

  -- an operation of several rows isn't offered
  pub record IsUnofferedAnswer (old : RowServer R S) (answer : Answer) (new : RowServer R S)
      : Type 0 where
    pub why : Refusal
    pub is : IsUnoffered (stamps.source.known old.stamps) why
    pub refused : answer ≡ given.Said (codec.Refused why)
    pub same : new ≡ old

  -- The contract of an answer to an operation. One request has a reply.
  abbrev pub IsAnswerTo : RowServer R S → Operation → Answer → RowServer R S → Type 0
  IsAnswerTo old (lent.One request) (given.Said reply) new = Attempts old request reply new
  IsAnswerTo old (lent.One request) answer new = ⊥
  IsAnswerTo old operation answer new = IsUnofferedAnswer old answer new

-- ---- between two answers

-- A floor may be published. Nothing else changes.
pub record IsTended {R S : Type 0} (source : Source S) (old new : RowServer R S) : Type 0 where
  pub last : source.last new.stamps ≡ source.last old.stamps
  pub known : source.known new.stamps ≡ source.known old.stamps
  pub others : new
      ≡ record old { stamps = new.stamps; answered = new.answered }
