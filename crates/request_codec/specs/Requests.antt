-- The bodies of requests: an operation's number, and its fields.
use Rattle.std.specs.Prelude.{◌≡◌, ℕ, List, [], ◌∷◌, ◌++◌, ◌<◌, ◌^◌}
use Rattle.si_model.specs.Messages.{Request, Begin, Get, ScanFrom, Set, Delete, Advance, Stop, CleanBegin, CleanStep, CollectBegin, CollectStep, Minor, Merge, Major, Split, Move, Sweep, OracleRestart, Raw, Checkpoint, Status}
pub use Rattle.request_codec.specs.Fields.{qualifier_number}
use Rattle.request_codec.specs.Fields.{number, field, cell_fields, FitsField, FitsCell}
use Rattle.request_codec.specs.Scans.{flag_number, range_fields, FitsRange}
use Rattle.si_model.specs.Replies.{range_of}
use Rattle.request_codec.specs.declared.requests.Request.{Request as Lent}
use Rattle.request_codec.specs.declared.requests.Request.TheVariants as lent

-- a request as the machine's
abbrev pub asked : Lent → Request
asked lent.Begin = Begin
asked (lent.Get start row family) = Get start (record { row = row.now; family = family.now })
asked (lent.Scan start range keys_only cells) = ScanFrom start (range_of range) keys_only cells
asked (lent.Set start row family value) =
    Set start (record { row = row.now; family = family.now }) value.now
asked (lent.Delete start row family) =
    Delete start (record { row = row.now; family = family.now })
asked (lent.Step start) = Advance start
asked (lent.Stop start) = Stop start
asked (lent.CleanBegin row family) = CleanBegin (record { row = row.now; family = family.now })
asked (lent.CleanStep cleaner) = CleanStep cleaner
asked lent.CollectBegin = CollectBegin
asked (lent.CollectStep collector visits) = CollectStep collector visits
asked (lent.Minor tablet) = Minor tablet
asked (lent.Merge tablet count) = Merge tablet count
asked (lent.Major tablet) = Major tablet
asked (lent.Split row) = Split row.now
asked (lent.Move tablet server) = Move tablet server
asked lent.Sweep = Sweep
asked lent.OracleRestart = OracleRestart
asked (lent.Raw row family qualifier lo hi) =
    Raw (record { row = row.now; family = family.now }) qualifier lo hi
asked lent.Checkpoint = Checkpoint
asked (lent.Status tablet) = Status tablet

-- the body of a request
abbrev pub request_body : Request → List ℕ
request_body Begin = 0x01 ∷ []
request_body (Get start cell) = 0x02 ∷ (number 8 start ++ cell_fields cell)
request_body (ScanFrom start range keys_only cells) =
    0x31 ∷ (number 8 start ++ (flag_number keys_only ∷ (range_fields range ++ number 4 cells)))
request_body (Set start cell value) = 0x03 ∷ (number 8 start ++ (cell_fields cell ++ field value))
request_body (Delete start cell) = 0x13 ∷ (number 8 start ++ cell_fields cell)
request_body (Advance start) = 0x04 ∷ number 8 start
request_body (Stop start) = 0x05 ∷ number 8 start
request_body (CleanBegin cell) = 0x06 ∷ cell_fields cell
request_body (CleanStep cleaner) = 0x07 ∷ number 8 cleaner
request_body CollectBegin = 0x08 ∷ []
request_body (CollectStep collector visits) = 0x09 ∷ (number 8 collector ++ number 4 visits)
request_body (Minor tablet) = 0x0A ∷ number 4 tablet
request_body (Merge tablet count) = 0x0B ∷ (number 4 tablet ++ number 4 count)
request_body (Major tablet) = 0x0C ∷ number 4 tablet
request_body (Split row) = 0x0D ∷ field row
request_body (Move tablet server) = 0x0E ∷ (number 4 tablet ++ number 1 server)
request_body Sweep = 0x0F ∷ []
request_body OracleRestart = 0x10 ∷ []
request_body (Raw cell qualifier low high) =
    0x11 ∷ (cell_fields cell
    ++ (number 1 (qualifier_number qualifier) ++ (number 8 low ++ number 8 high)))
request_body Checkpoint = 0x12 ∷ []
request_body (Status tablet) = 0x34 ∷ number 4 tablet

-- the requests of sessions, cleaners and collectors
abbrev pub IsOfClient : Request → Type 0
IsOfClient Begin = Unit {0}
IsOfClient (Get start cell) = Unit {0}
IsOfClient (ScanFrom start range keys_only cells) = Unit {0}
IsOfClient (Set start cell value) = Unit {0}
IsOfClient (Delete start cell) = Unit {0}
IsOfClient (Advance start) = Unit {0}
IsOfClient (Stop start) = Unit {0}
IsOfClient (CleanBegin cell) = Unit {0}
IsOfClient (CleanStep cleaner) = Unit {0}
IsOfClient CollectBegin = Unit {0}
IsOfClient (CollectStep collector visits) = Unit {0}
IsOfClient other = ⊥

-- each number fits its field
abbrev pub NumbersFit : Request → Type 0
NumbersFit (Get start cell) = start < 2 ^ 64
NumbersFit (ScanFrom start range keys_only cells) = (start < 2 ^ 64) × (cells < 2 ^ 32)
NumbersFit (Set start cell value) = start < 2 ^ 64
NumbersFit (Delete start cell) = start < 2 ^ 64
NumbersFit (Advance start) = start < 2 ^ 64
NumbersFit (Stop start) = start < 2 ^ 64
NumbersFit (CleanStep cleaner) = cleaner < 2 ^ 64
NumbersFit (CollectStep collector visits) = (collector < 2 ^ 64) × (visits < 2 ^ 32)
NumbersFit (Minor tablet) = tablet < 2 ^ 32
NumbersFit (Merge tablet count) = (tablet < 2 ^ 32) × (count < 2 ^ 32)
NumbersFit (Major tablet) = tablet < 2 ^ 32
NumbersFit (Move tablet server) = (tablet < 2 ^ 32) × (server < 2 ^ 8)
NumbersFit (Raw cell qualifier low high) = (low < 2 ^ 64) × (high < 2 ^ 64)
NumbersFit (Status tablet) = tablet < 2 ^ 32
NumbersFit other = Unit {0}

-- the length of each field of bytes fits its field
abbrev pub BytesFit : Request → Type 0
BytesFit (Get start cell) = FitsCell cell
BytesFit (ScanFrom start range keys_only cells) = FitsRange range
BytesFit (Set start cell value) = FitsCell cell × FitsField value
BytesFit (Delete start cell) = FitsCell cell
BytesFit (CleanBegin cell) = FitsCell cell
BytesFit (Split row) = FitsField row
BytesFit (Raw cell qualifier low high) = FitsCell cell
BytesFit other = Unit {0}

-- the body is this request's, in the grammar
pub record IsRequest (request : Request) (body : List ℕ) : Type 0 where
  pub numbers : NumbersFit request
  pub bytes : BytesFit request
  pub whole : body ≡ request_body request

-- the body is no request's
abbrev pub IsMalformed : List ℕ → Type 0
IsMalformed body = (request : Request) → IsRequest request body → ⊥
