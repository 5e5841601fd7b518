-- The contract of a call of `serve`.
use Rattle.std.specs.Prelude.{◌≡◌, ◌≢◌, ◌⊎◌, ℕ, ◌+◌, ◌<◌, ◌≤◌, List, [], ◌∷◌, ◌++◌, length, take, map, Bool, ◌&&◌, nat_lt, nat_le, if◌then◌else◌, Option, None, Some, Result, Ok, Err, ⊤}
use Rattle.std.specs.List.{AllByRecursion}
use Rattle.std.specs.Io.KnownBytes.{Consumes, Appends, IsAtEnd, Keeps}
use Rattle.si_model.specs.Machine.{State}
use Rattle.si_model.specs.Transactions.{Answer}
use Rattle.request_codec.specs.Answers.{answer_body}
use Rattle.request_codec.specs.declared.answers.Answer.{Answer as CodecAnswer}
use Rattle.request_codec.specs.declared.operations.Operation.{Operation as Lent}
use Rattle.request_codec.specs.Stream.{longest, frame, frames, announced, IsTooLong, IsPartial, BeginsNoFrame, CutsInto, IsBody}
use Rattle.server_loop.specs.Runs.{Taken, Body, Oversize, AnswersAs, RunsAs, SaysAll}
use Rattle.server_loop.specs.declared.statuses.End.{End}
use Rattle.server_loop.specs.declared.statuses.End.TheVariants as ends
use Rattle.server_loop.specs.declared.statuses.ServeFault.{ServeFault}
use Rattle.server_loop.specs.declared.statuses.ServeFault.TheVariants as faults

-- ---- the bodies taken and the bytes written

abbrev pub is_too_large : List ℕ → Bool
is_too_large rest = nat_le 4 (length rest) && nat_lt longest (announced rest)

-- the machine's inputs: each body, and then a length past the limit, if the rest has one
abbrev pub taken_of : List (List ℕ) → List ℕ → List Taken
taken_of bodies rest = map Body bodies ++ (if is_too_large rest then Oversize ∷ [] else [])

-- the frames of the replies
abbrev pub written_of : List Answer → List ℕ
written_of replies = frames (map answer_body replies)

-- The machine took all of the bodies and their rest. If a write failed, a length past the limit may not have been
-- reached.
abbrev pub TakesBodies : Result End ServeFault → List (List ℕ) → List ℕ → List Taken → Type 0
TakesBodies (Err faults.Write) bodies rest taken =
    (taken ≡ map Body bodies) ⊎ (IsTooLong rest × (taken ≡ map Body bodies ++ Oversize ∷ []))
TakesBodies result bodies rest taken = taken ≡ taken_of bodies rest

-- The last reply was not written completely.
pub record IsCutShort (replies : List Answer) (written : List ℕ) : Type 0 where
  pub earlier : List Answer
  pub reply : Answer
  pub is_replied : replies ≡ earlier ++ reply ∷ []
  pub count : ℕ
  pub short : count < length (frame (answer_body reply))
  pub wrote : written ≡ written_of earlier ++ take count (frame (answer_body reply))

-- The bytes written. Only a failed write cuts a reply short; after a failed flush all replies were written.
abbrev pub WritesReplies : Result End ServeFault → List Answer → List ℕ → Type 0
WritesReplies (Err faults.Write) replies written =
    (written ≡ written_of replies) ⊎ IsCutShort replies written
WritesReplies result replies written = written ≡ written_of replies

-- ---- how it ends

-- the most bytes that are read but not answered: less than a frame
abbrev pub most_left : ℕ
most_left = longest + 3

-- the same, if a length past the limit comes: less than its four bytes, and one piece of the input
abbrev pub most_dropped : ℕ
most_dropped = 3 + 65536

-- To a client a failed log is like a failed write: no further reply comes.
abbrev pub as_write : Result End ServeFault → Result End ServeFault
as_write (Err faults.Log) = Err faults.Write
as_write result = result

-- When each end comes, in terms of the bytes read, their rest, the reader's remaining bytes and the writer's contents.
abbrev pub EndsBy : Result End ServeFault → ℕ → List ℕ → List ℕ → Option (List ℕ) → Option (List ℕ)
    → Option (List ℕ) → Type 0
EndsBy (Ok ends.Clean) most_reads read rest left held held' = (rest ≡ []) × IsAtEnd left
EndsBy (Ok ends.Truncated) most_reads read rest left held held' =
    (0 < length rest) × IsPartial rest × IsAtEnd left
EndsBy (Ok ends.TooLarge) most_reads read rest left held held' =
    IsTooLong rest × (length rest ≤ most_dropped)
EndsBy (Ok ends.ReadsUsedUp) most_reads read rest left held held' =
    (most_reads ≤ length read) × IsPartial rest
EndsBy (Err faults.Read) most_reads read rest left held held' = IsPartial rest
EndsBy (Err faults.Write) most_reads read rest left held held' = length rest ≤ most_left
EndsBy (Err faults.NoMemory) most_reads read rest left held held' = (read ≡ []) × Keeps held held'
EndsBy (Err faults.Log) most_reads read rest left held held' = ⊥

-- ---- a call

-- The bytes are the frames of bodies and a rest. The replies are given by a run of the machine over these. Each fulfils
-- the contract of an answer, and is followed by the upkeep. The replies' frames were written, the last one only in part
-- if a write failed.
pub record Handles {S : Type 0} (shows : S → State → Type 0)
    (says : S → Lent → CodecAnswer → S → Type 0)
    (between : S → S → Type 0) (result : Result End ServeFault) (old new : S) (bytes rest : List ℕ)
    (held held' : Option (List ℕ)) : Type 0 where
  pub bodies : List (List ℕ)
  pub whole : bytes ≡ frames bodies ++ rest
  pub each : AllByRecursion IsBody bodies
  pub taken : List Taken
  pub takes : TakesBodies result bodies rest taken
  pub replies : List Answer
  pub run : RunsAs shows old new taken replies
  pub said : SaysAll says between old taken replies new
  pub written : List ℕ
  pub writes : WritesReplies result replies written
  pub appended : Appends held held' written

-- The contract of `serve`: bytes were read, and all of them were handled, with this end.
pub record Serves {S : Type 0} (shows : S → State → Type 0)
    (says : S → Lent → CodecAnswer → S → Type 0)
    (between : S → S → Type 0) (old new : S)
    (left left' held held' : Option (List ℕ)) (most_reads : ℕ)
    (result : Result End ServeFault) : Type 0 where
  pub read : List ℕ
  pub consumed : Consumes left left' read
  pub rest : List ℕ
  pub open_rest : result ≢ Err faults.Write → BeginsNoFrame rest
  pub handled : Handles shows says between result old new read rest held held'
  pub ending : EndsBy result most_reads read rest left' held held'

-- the rest of the stream at this end
abbrev pub RestIs : End → List ℕ → Type 0
RestIs ends.Clean rest = rest ≡ []
RestIs ends.Truncated rest = (0 < length rest) × IsPartial rest
RestIs ends.TooLarge rest = IsTooLong rest
RestIs ends.ReadsUsedUp rest = Unit {0}

-- A whole stream was served: its bodies, and its rest as the end says.
pub record ServesStream {S : Type 0} (shows : S → State → Type 0)
    (says : S → Lent → CodecAnswer → S → Type 0) (between : S → S → Type 0) (old new : S)
    (stream : List ℕ)
    (held held' : Option (List ℕ)) (end : End) : Type 0 where
  pub bodies : List (List ℕ)
  pub rest : List ℕ
  pub cut : CutsInto stream bodies rest
  pub rest_is : RestIs end rest
  pub replies : List Answer
  pub run : AnswersAs shows says between old new (taken_of bodies rest) replies
  pub appended : Appends held held' (written_of replies)
