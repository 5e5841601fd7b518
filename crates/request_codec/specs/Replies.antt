-- The bodies of replies: an operation's number with its highest bit set, and its fields. A refusal has a body of its
-- own.
use Rattle.std.specs.Prelude.{◌≡◌, ℕ, List, [], ◌∷◌, ◌++◌, ◌<◌, ◌≤◌, ◌^◌, length, Option, Some, None, option_map}
use Rattle.cell_key.specs.Refusals.{refusal_number}
use Rattle.cell_key.specs.Versions.{stamped}
use Rattle.si_model.specs.Messages.{Reply, Begun, Answered, Pending, Scanned, ToEnd, SetDone, DeleteDone, Held, Conflict, Drawn, Committed, Lost, Finished, StopDone, NoLock, Cleaning, Decided, RolledForward, RolledBack, Gone, Collecting, More, Blocked, Collected, MinorDone, MergeDone, MajorDone, SplitOff, MoveDone, Swept, RestartDone, RawFound, CheckpointDone, Reported, Refused}
use Rattle.si_model.specs.Replies.{found_reply, progress_reply, clean_start_reply, clean_reply, collect_reply, scan_reply}
use Rattle.request_codec.specs.Fields.{number, field, cell_fields, FitsField}
use Rattle.si_model.specs.AnswerLimits.{IsInScanLimits}
use Rattle.si_model.specs.Takings.{IsNamed}
use Rattle.request_codec.specs.Scans.{reach_fields, items_fields, StartFits}
use Rattle.si_model.specs.Messages.{Item}
use Rattle.si_model.specs.declared.replies.Cell.{Cell}
use Rattle.std.specs.List.{AllByRecursion}
use Rattle.request_codec.specs.declared.replies.Reply.{Reply as Kept}
use Rattle.request_codec.specs.declared.replies.Reply.TheVariants as kept

-- a reply as the machine's
abbrev pub replied : Kept → Reply
replied (kept.Begin start) = Begun start
replied (kept.Get found) = found_reply found
replied (kept.Scan reply) = scan_reply reply
replied kept.Set = SetDone
replied kept.Delete = DeleteDone
replied (kept.Step progress) = progress_reply progress
replied kept.Stop = StopDone
replied (kept.CleanBegin found) = clean_start_reply found
replied (kept.CleanStep done) = clean_reply done
replied (kept.CollectBegin collector floor) = Collecting collector floor
replied (kept.CollectStep done) = collect_reply done
replied kept.Minor = MinorDone
replied kept.Merge = MergeDone
replied kept.Major = MajorDone
replied (kept.Split tablet) = SplitOff tablet
replied kept.Move = MoveDone
replied (kept.Sweep count) = Swept count
replied kept.OracleRestart = RestartDone
replied (kept.Raw found) = RawFound (option_map stamped found)
replied kept.Checkpoint = CheckpointDone
replied (kept.Status report) = Reported report.items
replied (kept.Refused refusal) = Refused refusal

-- the fields of a read's answer
abbrev pub answer_fields : Option (List ℕ) → List ℕ
answer_fields None = 0x00 ∷ []
answer_fields (Some value) = 0x01 ∷ field value

-- the fields of a raw read's answer: a stamp and a value
abbrev pub raw_fields : Option (ℕ × List ℕ) → List ℕ
raw_fields None = 0x00 ∷ []
raw_fields (Some found) = 0x01 ∷ (number 8 found.0 ++ field found.1)

-- the body of a reply
abbrev pub reply_body : Reply → List ℕ
reply_body (Begun start) = 0x81 ∷ number 8 start
reply_body (Answered answer) = 0x82 ∷ answer_fields answer
reply_body (Pending start) = 0x82 ∷ 0x02 ∷ number 8 start
reply_body (Scanned items reach) =
    0xB1 ∷ (reach_fields reach ++ (number 4 (length items) ++ items_fields items))
reply_body SetDone = 0x83 ∷ []
reply_body DeleteDone = 0x93 ∷ []
reply_body (Held place count) = 0x84 ∷ 0x01 ∷ (number 2 place ++ number 2 count)
reply_body (Conflict place) = 0x84 ∷ 0x02 ∷ number 2 place
reply_body (Drawn stamp) = 0x84 ∷ 0x03 ∷ number 8 stamp
reply_body (Committed stamp) = 0x84 ∷ 0x04 ∷ number 8 stamp
reply_body Lost = 0x84 ∷ 0x05 ∷ []
reply_body (Finished place count) = 0x84 ∷ 0x06 ∷ (number 2 place ++ number 2 count)
reply_body StopDone = 0x85 ∷ []
reply_body NoLock = 0x86 ∷ 0x00 ∷ []
reply_body (Cleaning cleaner start) = 0x86 ∷ 0x01 ∷ (number 8 cleaner ++ number 8 start)
reply_body Decided = 0x87 ∷ 0x01 ∷ []
reply_body (RolledForward stamp) = 0x87 ∷ 0x02 ∷ number 8 stamp
reply_body RolledBack = 0x87 ∷ 0x03 ∷ []
reply_body Gone = 0x87 ∷ 0x04 ∷ []
reply_body (Collecting collector floor) = 0x88 ∷ (number 8 collector ++ number 8 floor)
reply_body More = 0x89 ∷ 0x01 ∷ []
reply_body (Blocked cell start) = 0x89 ∷ 0x02 ∷ (cell_fields cell ++ number 8 start)
reply_body Collected = 0x89 ∷ 0x03 ∷ []
reply_body MinorDone = 0x8A ∷ []
reply_body MergeDone = 0x8B ∷ []
reply_body MajorDone = 0x8C ∷ []
reply_body (SplitOff tablet) = 0x8D ∷ number 4 tablet
reply_body MoveDone = 0x8E ∷ []
reply_body (Swept count) = 0x8F ∷ number 8 count
reply_body RestartDone = 0x90 ∷ []
reply_body (RawFound found) = 0x91 ∷ raw_fields found
reply_body CheckpointDone = 0x92 ∷ []
reply_body (Reported report) = 0xB4 ∷ report
reply_body (Refused refusal) = 0xFF ∷ refusal_number refusal ∷ []

-- each number fits its field
abbrev pub ReplyNumbersFit : Reply → Type 0
ReplyNumbersFit (Begun start) = start < 2 ^ 64
ReplyNumbersFit (Pending start) = start < 2 ^ 64
ReplyNumbersFit (Scanned items reach) =
    AllByRecursion (λ (item : Cell × Item). StartFits item.1) items
ReplyNumbersFit (Held place count) = (place < 2 ^ 16) × (count < 2 ^ 16)
ReplyNumbersFit (Conflict place) = place < 2 ^ 16
ReplyNumbersFit (Drawn stamp) = stamp < 2 ^ 64
ReplyNumbersFit (Committed stamp) = stamp < 2 ^ 64
ReplyNumbersFit (Finished place count) = (place < 2 ^ 16) × (count < 2 ^ 16)
ReplyNumbersFit (Cleaning cleaner start) = (cleaner < 2 ^ 64) × (start < 2 ^ 64)
ReplyNumbersFit (RolledForward stamp) = stamp < 2 ^ 64
ReplyNumbersFit (Collecting collector floor) = (collector < 2 ^ 64) × (floor < 2 ^ 64)
ReplyNumbersFit (Blocked cell start) = start < 2 ^ 64
ReplyNumbersFit (SplitOff tablet) = tablet < 2 ^ 32
ReplyNumbersFit (Swept count) = count < 2 ^ 64
ReplyNumbersFit (RawFound (Some found)) = found.0 < 2 ^ 64
ReplyNumbersFit other = Unit {0}

-- the length of each field of bytes fits its field; if a lock blocks a collector, the row and the family are within
-- their limits; a scan's names and items are within their limits
abbrev pub ReplyBytesFit : Reply → Type 0
ReplyBytesFit (Answered (Some value)) = FitsField value
ReplyBytesFit (Scanned items reach) = IsInScanLimits items reach
ReplyBytesFit (Blocked cell start) = IsNamed cell
ReplyBytesFit (RawFound (Some found)) = FitsField found.1
ReplyBytesFit other = Unit {0}

-- the body is this reply's, in the grammar
pub record IsReply (reply : Reply) (body : List ℕ) : Type 0 where
  pub numbers : ReplyNumbersFit reply
  pub bytes : ReplyBytesFit reply
  pub whole : body ≡ reply_body reply

-- the body is no reply's
abbrev pub IsNoReply : List ℕ → Type 0
IsNoReply body = (reply : Reply) → IsReply reply body → ⊥

-- the contents of the reply are within the limits of rows, families, values and reports
abbrev pub HoldsWithinLimits : Reply → Type 0
HoldsWithinLimits (Answered (Some value)) = length value ≤ 65536
HoldsWithinLimits (Scanned items reach) = IsInScanLimits items reach
HoldsWithinLimits (RawFound (Some found)) = length found.1 ≤ 65536
HoldsWithinLimits (Blocked cell start) = IsNamed cell
HoldsWithinLimits (Reported report) = length report ≤ 65536
HoldsWithinLimits other = Unit {0}

-- the reply has bytes that must be allocated
abbrev pub HoldsBytes : Reply → Type 0
HoldsBytes (Answered (Some value)) = Unit {0}
HoldsBytes (Scanned [] ToEnd) = ⊥
HoldsBytes (Scanned items reach) = Unit {0}
HoldsBytes (Blocked cell start) = Unit {0}
HoldsBytes (RawFound (Some found)) = Unit {0}
HoldsBytes (Reported report) = Unit {0}
HoldsBytes other = ⊥

-- the body is the body of such a reply
abbrev pub NeedsMemory : List ℕ → Type 0
NeedsMemory body = (reply : Reply) × IsReply reply body × HoldsBytes reply
