-- The words of the serving loop, over one relation of answers: what was taken, and the body of the reply.
use Rattle.std.specs.Prelude.{◌≡◌, ◌≢◌, ◌⊎◌, ℕ, ◌<◌, ◌≤◌, List, [], ◌∷◌, ◌++◌, length, map, Option, None, Some, Result, Ok, Err, ⊤}
use Rattle.std.specs.List.{AllByRecursion}
use Rattle.std.specs.Io.KnownBytes.{Consumes, Appends}
use Rattle.si_model.specs.Machine.{State}
use Rattle.si_model.specs.Transactions.{Answer}
use Rattle.request_codec.specs.Answers.{answer_body}
use Rattle.request_codec.specs.declared.answers.Answer.{Answer as CodecAnswer}
use Rattle.request_codec.specs.declared.operations.Operation.{Operation as Lent}
use Rattle.request_codec.specs.Stream.{frames, IsTooLong, IsPartial, BeginsNoFrame, IsBody}
use Rattle.server_loop.specs.Runs.{Taken, Body, Oversize, RunsAs, SaysOf}
use Rattle.server_loop.specs.Serve.{as_write, EndsBy}
use Rattle.server_loop.specs.declared.statuses.End.{End}
use Rattle.server_loop.specs.declared.statuses.End.TheVariants as ends
use Rattle.server_loop.specs.declared.statuses.ServeFault.{ServeFault}
use Rattle.server_loop.specs.declared.statuses.ServeFault.TheVariants as faults
use Rattle.server_loop.specs.declared.frame_loop.Incoming.{Incoming}
use Rattle.server_loop.specs.declared.frame_loop.Incoming.TheVariants as heards
use Rattle.server_loop.specs.declared.frame_loop.Rest.{Rest}
use Rattle.server_loop.specs.declared.frame_loop.Rest.TheVariants as rests

-- ---- an answer

abbrev pub taken_by : Incoming → Taken
taken_by (heards.Body body) = Body body.now
taken_by heards.TooLarge = Oversize

-- An answer of the machine, with a reply of this body: it is given by a run, from each reached state that is shown, and
-- fulfils the contract of an answer. The upkeep follows it, and keeps showing each state that is shown.
pub record IsAnswered {S : Type 0} (shows : S → State → Type 0)
    (says : S → Lent → CodecAnswer → S → Type 0)
    (between : S → S → Type 0) (old : S) (taken : Taken) (body : List ℕ) (new : S) : Type 0 where
  pub mid : S
  pub reply : Answer
  pub is_body : body ≡ answer_body reply
  pub run : RunsAs shows old mid (taken ∷ []) (reply ∷ [])
  pub said : SaysOf says old taken reply mid
  pub tended : between mid new
  pub shown : (st : State) → shows mid st → shows new st

-- ---- the end of a piece

-- a length past the limit, if one was taken
abbrev pub over_of : Option Rest → List Taken
over_of None = []
over_of (Some rests.Partial) = []
over_of (Some rests.TooLarge) = Oversize ∷ []

abbrev pub over_at : End → List Taken
over_at ends.Clean = []
over_at ends.Truncated = []
over_at ends.TooLarge = Oversize ∷ []
over_at ends.ReadsUsedUp = []

-- only a length past the limit is taken as one
abbrev pub IsOver : List Taken → List ℕ → Type 0
IsOver over rest = (over ≡ []) ⊎ (IsTooLong rest × (over ≡ Oversize ∷ []))

-- The rest of the bytes at hand, of which the last bytes are behind the framer: less than a frame, all of it in the
-- framer; or a length past the limit; or there may be more frames.
abbrev pub LeavesRest : Option Rest → List ℕ → List ℕ → Type 0
LeavesRest None rest behind = ⊤
LeavesRest (Some rests.Partial) rest behind = IsPartial rest × (behind ≡ [])
LeavesRest (Some rests.TooLarge) rest behind = IsTooLong rest

-- the frames of all bodies but the last have fewer bytes than this
abbrev pub IsBatch : ℕ → List (List ℕ) → Type 0
IsBatch most replies =
    (replies ≡ [])
    ⊎ ((first : List (List ℕ)) × (last : List ℕ) × (replies ≡ first ++ last ∷ [])
    × (length (frames first) < most))

-- ---- answers

module _ {S : Type 0} (answers : S → Taken → List ℕ → S → Type 0) where
  -- one answer after the other
  abbrev pub AnswersAll : S → List Taken → List (List ℕ) → S → Type 0
  AnswersAll old [] [] new = new ≡ old
  AnswersAll old (taken ∷ more) (body ∷ bodies) new =
      (mid : S) × answers old taken body mid × AnswersAll mid more bodies new
  AnswersAll old [] (body ∷ bodies) new = ⊥
  AnswersAll old (taken ∷ more) [] new = ⊥

  -- Whole frames of the bytes were answered, and then a length past the limit, if one was taken.
  pub record Answered (old new : S) (bytes rest : List ℕ) (over : List Taken)
      (replies : List (List ℕ)) : Type 0 where
    pub bodies : List (List ℕ)
    pub whole : bytes ≡ frames bodies ++ rest
    pub each : AllByRecursion IsBody bodies
    pub said : AnswersAll old (map Body bodies ++ over) replies new

-- ---- batches

module _ {S : Type 0} (answers : S → Taken → List ℕ → S → Type 0) (settles fails : S → S → Type 0)
  where
    -- The last of some answers was settled. Or nothing was answered.
    abbrev pub SettlesAll : S → S → Type 0
    SettlesAll old new =
        (new ≡ old)
        ⊎ ((taken : List Taken) × (replies : List (List ℕ)) × (last : S) × (0 < length replies)
        × AnswersAll answers old taken replies last × settles last new)

    -- Whole frames were answered, all answers were settled, and then the frames of their replies were written.
    pub record Delivers (old new : S) (bytes rest : List ℕ) (over : List Taken)
        (held held' : Option (List ℕ)) : Type 0 where
      pub replies : List (List ℕ)
      pub answered : Answered answers old new bytes rest over replies
      pub settled : SettlesAll old new
      pub appended : Appends held held' (frames replies)

    -- A batch was not settled, and nothing of it was written. Or it was settled, and not all of it was written.
    abbrev pub IsCutBy : ServeFault → S → S → List ℕ → List ℕ → Type 0
    IsCutBy faults.Log last new written more = fails last new × (written ≡ [])
    IsCutBy faults.Write last new written more = settles last new × (0 < length more)
    IsCutBy faults.Read last new written more = ⊥
    IsCutBy faults.NoMemory last new written more = ⊥

    -- A first part of the bytes was answered, settled and written. Then a batch was answered and cut.
    pub record Cuts (most : ℕ) (fault : ServeFault) (old new : S) (bytes rest : List ℕ)
        (held held' : Option (List ℕ)) : Type 0 where
      pub mid : S
      pub behind : List ℕ
      pub sent : Option (List ℕ)
      pub front : Delivers old mid bytes behind [] held sent
      pub last : S
      pub over : List Taken
      pub replies : List (List ℕ)
      pub batch : Answered answers mid last behind rest over replies
      pub is_over : IsOver over rest
      pub small : IsBatch most replies
      pub some : 0 < length replies
      pub written : List ℕ
      pub more : List ℕ
      pub parts : frames replies ≡ written ++ more
      pub appended : Appends sent held' written
      pub cut : IsCutBy fault last new written more

    -- ---- a call

    -- What was done with the bytes. After a failed flush all was written.
    abbrev pub Outcome : ℕ → Result End ServeFault → S → S → List ℕ → List ℕ → Option (List ℕ)
        → Option (List ℕ) → Type 0
    Outcome most (Ok end) old new bytes rest held held' =
        Delivers old new bytes rest (over_at end) held held'
    Outcome most (Err faults.Read) old new bytes rest held held' =
        Delivers old new bytes rest [] held held'
    Outcome most (Err faults.NoMemory) old new bytes rest held held' =
        Delivers old new bytes rest [] held held'
    Outcome most (Err faults.Write) old new bytes rest held held' =
        ((over : List Taken) × IsOver over rest × Delivers old new bytes rest over held held')
        ⊎ Cuts most faults.Write old new bytes rest held held'
    Outcome most (Err faults.Log) old new bytes rest held held' =
        Cuts most faults.Log old new bytes rest held held'

    -- Bytes were read after those at hand, and served, with this end.
    pub record ServesOn (most : ℕ) (hand : List ℕ) (old new : S)
        (left left' held held' : Option (List ℕ)) (most_reads : ℕ)
        (result : Result End ServeFault) : Type 0 where
      pub read : List ℕ
      pub consumed : Consumes left left' read
      pub rest : List ℕ
      pub open_rest : as_write result ≢ Err faults.Write → BeginsNoFrame rest
      pub outcome : Outcome most result old new (hand ++ read) rest held held'
      pub ending : EndsBy (as_write result) most_reads read rest left' held held'

    -- Bytes were read after those at hand. All whole frames were answered, settled and written. The rest is at hand.
    pub record Served (hand hand' : List ℕ) (old new : S) (left left' held held' : Option (List ℕ))
        (reads : ℕ) : Type 0 where
      pub read : List ℕ
      pub consumed : Consumes left left' read
      pub counted : reads ≤ length read
      pub partial : IsPartial hand'
      pub delivered : Delivers old new (hand ++ read) hand' [] held held'

    -- the outcome of one read: the input goes on, or it ended
    abbrev pub ReadsOn : ℕ → Result (Option End) ServeFault → List ℕ → List ℕ → S → S
        → Option (List ℕ) → Option (List ℕ) → Option (List ℕ) → Option (List ℕ) → Type 0
    ReadsOn most (Ok None) hand hand' old new left left' held held' =
        Served hand hand' old new left left' held held' 1
    ReadsOn most (Ok (Some end)) hand hand' old new left left' held held' =
        (end ≢ ends.ReadsUsedUp)
        × ServesOn most hand old new left left' held held' 0 (Ok end)
    ReadsOn most (Err fault) hand hand' old new left left' held held' =
        (fault ≢ faults.NoMemory)
        × ServesOn most hand old new left left' held held' 0 (Err fault)
