-- Laws of bodies and streams.
use Rattle.std.specs.Prelude.{◌≡◌, ℕ, List, ◌++◌, ◌+◌, ◌*◌, ◌<◌, ◌≤◌, length, slice_index, Option, Some}
use Rattle.std.specs.List.{AllByRecursion}
use Rattle.si_model.specs.Messages.{Item, Request, Reply, RawFound}
use Rattle.si_model.specs.Transactions.{Operation, Answer, ReadDone, most_told, told_lengths}
use Rattle.request_codec.specs.Requests.{IsRequest}
use Rattle.request_codec.specs.Replies.{reply_body, IsReply, HoldsWithinLimits}
use Rattle.request_codec.specs.Operations.{IsOperation}
use Rattle.request_codec.specs.Answers.{answer_body, longest_answer, AnswerBytesFit, IsAnswerBody, HoldsAnswerWithinLimits}
use Rattle.request_codec.specs.Stream.{frame, frames, longest_reply, IsBody, CutsInto}

-- a stream can be cut into bodies and a rest in only one way
abbrev pub OneCut : Type 0
OneCut = (stream : List ℕ) (bodies others : List (List ℕ)) (rest other : List ℕ)
    → CutsInto stream bodies rest → CutsInto stream others other
    → (bodies ≡ others) × (rest ≡ other)

-- each stream of bytes has a cut
abbrev pub HasCut : Type 0
HasCut = (stream : List ℕ) → ((i : ℕ) → slice_index stream i < 256)
    → (bodies : List (List ℕ)) × (rest : List ℕ) × CutsInto stream bodies rest

-- Any frames handed out of a stream are a prefix of its cut, and the cut of the remaining bytes has the other bodies
-- and the same rest.
abbrev pub CutGoesOn : Type 0
CutGoesOn = (stream pending rest : List ℕ) (handed bodies : List (List ℕ))
    → stream ≡ frames handed ++ pending → AllByRecursion IsBody handed → CutsInto stream bodies rest
    → (more : List (List ℕ)) × (bodies ≡ handed ++ more) × CutsInto pending more rest

-- a frame that is a prefix of another frame is that frame
abbrev pub NoFrameBeginsAnother : Type 0
NoFrameBeginsAnother = (a b more : List ℕ) → IsBody a → IsBody b → frame b ≡ frame a ++ more → a ≡ b

-- two requests with the same body are equal
abbrev pub OneRequestABody : Type 0
OneRequestABody = (a b : Request) (body : List ℕ) → IsRequest a body → IsRequest b body → a ≡ b

-- two replies with the same body are equal
abbrev pub OneReplyABody : Type 0
OneReplyABody = (a b : Reply) (body : List ℕ) → IsReply a body → IsReply b body → a ≡ b

-- no reply within the limits has a longer frame than this
abbrev pub RepliesFit : Type 0
RepliesFit =
    (reply : Reply) → HoldsWithinLimits reply → length (frame (reply_body reply)) ≤ longest_reply

-- the reply of a raw read that finds a value of the greatest length has the longest frame
abbrev pub RawIsLongest : Type 0
RawIsLongest =
    (stamp : ℕ) (value : List ℕ) → length value ≡ 65536
    → length (frame (reply_body (RawFound (Some (stamp, value))))) ≡ longest_reply

-- two operations with the same body are equal
abbrev pub OneOperationABody : Type 0
OneOperationABody =
    (a b : Operation) (body : List ℕ) → IsOperation a body → IsOperation b body → a ≡ b

-- two answers with the same body are equal
abbrev pub OneAnswerABody : Type 0
OneAnswerABody =
    (a b : Answer) (body : List ℕ) → IsAnswerBody a body → IsAnswerBody b body → a ≡ b

-- the bytes of an answer within its limits fit their fields, and its frame is not longer than this
abbrev pub AnswersFit : Type 0
AnswersFit =
    (answer : Answer) → HoldsAnswerWithinLimits answer
    → AnswerBytesFit answer × (length (frame (answer_body answer)) ≤ longest_answer)

-- the answer of a Read that tells as much as it may has the longest frame
abbrev pub ReadIsLongest : Type 0
ReadIsLongest =
    (start : ℕ) (said : List (Option Item)) → told_lengths said ≡ most_told + 255 * 9
    → length (frame (answer_body (ReadDone start said))) ≡ longest_answer
