-- The bodies of frames that have a client.
use Rattle.std.specs.Prelude.{◌≡◌, ℕ, ◌<◌, ◌^◌, List, [], ◌++◌, length}
use Rattle.si_model.specs.Transactions.{Answer, Operation}
use Rattle.request_codec.specs.Answers.{answer_body}
use Rattle.request_codec.specs.Fields.{number}
use Rattle.request_codec.specs.Operations.{HasCells, IsOperation, IsNoOperation, operation_of}
use Rattle.ownership.specs.Turns.{Frame, Asks, Leaves, Malformed, NoClient, TooLarge}
use Rattle.ownership.specs.declared.frames.Frame.{Frame as Read}
use Rattle.ownership.specs.declared.frames.Frame.TheVariants as reads

-- the body is a client's number in four bytes, and these bytes
abbrev pub IsOfClient : ℕ → List ℕ → List ℕ → Type 0
IsOfClient client rest body = (client < 2 ^ 32) × (body ≡ number 4 client ++ rest)

-- What a body says: four bytes of a client's number, and the body of an operation; or nothing more, and the client is
-- gone.
abbrev pub IsBodyOf : Frame → List ℕ → Type 0
IsBodyOf (Asks client operation) body =
    (rest : List ℕ) × IsOfClient client rest body × IsOperation operation rest
IsBodyOf (Leaves client) body = IsOfClient client [] body
IsBodyOf (Malformed client) body =
    (rest : List ℕ) × IsOfClient client rest body × (0 < length rest) × IsNoOperation rest
IsBodyOf NoClient body = length body < 4
IsBodyOf TooLarge body = ⊥

-- the body of an answer to a client
abbrev pub client_body : ℕ → Answer → List ℕ
client_body client answer = number 4 client ++ answer_body answer

-- a frame that was read, without where it lies in memory
abbrev pub frame_of : Read → Frame
frame_of (reads.Asks client operation) = Asks client (operation_of operation)
frame_of (reads.Leaves client) = Leaves client
frame_of (reads.Malformed client) = Malformed client
frame_of reads.NoClient = NoClient

-- the body says this
abbrev pub IsRead : List ℕ → Read → Type 0
IsRead body read = IsBodyOf (frame_of read) body

-- the body is that of a client's Commit or Read with cells
abbrev pub IsUnread : List ℕ → ℕ → Type 0
IsUnread body client =
    (operation : Operation) × IsBodyOf (Asks client operation) body × HasCells operation
