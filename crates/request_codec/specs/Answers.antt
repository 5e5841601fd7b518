-- The bodies of answers: of a reply, and of the answers to a Commit and to a Read.
use Rattle.std.specs.Prelude.{◌≡◌, ℕ, List, [], ◌∷◌, ◌++◌, ◌<◌, ◌^◌, length, Option, Some, None, IfSome}
use Rattle.std.specs.List.{AllByRecursion, flat_map}
use Rattle.si_model.specs.AnswerLimits.{IsInReadLimits}
use Rattle.si_model.specs.Answers.{commit_answer, read_answer}
use Rattle.si_model.specs.Messages.{Item}
use Rattle.si_model.specs.Transactions.{Answer, Said, CommitDone, CommitConflict, ReadDone}
use Rattle.request_codec.specs.Fields.{number}
use Rattle.request_codec.specs.Parts.{AreParts}
use Rattle.request_codec.specs.Replies.{replied, reply_body, ReplyNumbersFit, ReplyBytesFit, HoldsWithinLimits, HoldsBytes}
use Rattle.request_codec.specs.Scans.{said_fields, StartFits, SaidFits}
use Rattle.request_codec.specs.declared.answers.Answer.{Answer as Kept}
use Rattle.request_codec.specs.declared.answers.Answer.TheVariants as kept

-- the longest frame of an answer: the four bytes of a length, and the longest body
abbrev pub longest_answer : ℕ
longest_answer = 1048580

-- an answer as the machine's
abbrev pub answer_of : Kept → Answer
answer_of (kept.Said reply) = Said (replied reply)
answer_of (kept.Commit reply) = commit_answer reply
answer_of (kept.Read reply) = read_answer reply

-- what a Read says of a cell: nothing, or as a scan
abbrev pub told_fields : Option Item → List ℕ
told_fields None = 0x00 ∷ []
told_fields (Some item) = said_fields item

-- the body of an answer
abbrev pub answer_body : Answer → List ℕ
answer_body (Said reply) = reply_body reply
answer_body (CommitDone start stamp) = 0xB2 ∷ 0x01 ∷ (number 8 start ++ number 8 stamp)
answer_body (CommitConflict start place) = 0xB2 ∷ 0x02 ∷ (number 8 start ++ number 2 place)
answer_body (ReadDone start said) =
    0xB3 ∷ (number 8 start ++ (number 4 (length said) ++ flat_map told_fields said))

-- the start of a mark fits its field
abbrev pub ToldStartFits : Option Item → Type 0
ToldStartFits told = IfSome told (λ item. StartFits item)

-- each number fits its field
abbrev pub AnswerNumbersFit : Answer → Type 0
AnswerNumbersFit (Said reply) = ReplyNumbersFit reply
AnswerNumbersFit (CommitDone start stamp) = (start < 2 ^ 64) × (stamp < 2 ^ 64)
AnswerNumbersFit (CommitConflict start place) = (start < 2 ^ 64) × (place < 2 ^ 16)
AnswerNumbersFit (ReadDone start said) =
    (start < 2 ^ 64) × AllByRecursion ToldStartFits said

-- the bytes of a reply fit their fields, and what a Read tells is within its limits
abbrev pub AnswerBytesFit : Answer → Type 0
AnswerBytesFit (Said reply) = ReplyBytesFit reply
AnswerBytesFit (CommitDone start stamp) = Unit {0}
AnswerBytesFit (CommitConflict start place) = Unit {0}
AnswerBytesFit (ReadDone start said) = IsInReadLimits said

-- the body is this answer's, in the grammar
pub record IsAnswerBody (answer : Answer) (body : List ℕ) : Type 0 where
  pub numbers : AnswerNumbersFit answer
  pub bytes : AnswerBytesFit answer
  pub whole : body ≡ answer_body answer

-- the body is no answer's
abbrev pub IsNoAnswer : List ℕ → Type 0
IsNoAnswer body = (answer : Answer) → IsAnswerBody answer body → ⊥

-- the contents of the answer are within the limits of rows, families, values and Reads
abbrev pub HoldsAnswerWithinLimits : Answer → Type 0
HoldsAnswerWithinLimits (Said reply) = HoldsWithinLimits reply
HoldsAnswerWithinLimits (CommitDone start stamp) = Unit {0}
HoldsAnswerWithinLimits (CommitConflict start place) = Unit {0}
HoldsAnswerWithinLimits (ReadDone start said) = IsInReadLimits said

-- the answer has something that must be allocated
abbrev pub HoldsParts : Answer → Type 0
HoldsParts (Said reply) = HoldsBytes reply
HoldsParts (CommitDone start stamp) = ⊥
HoldsParts (CommitConflict start place) = ⊥
HoldsParts (ReadDone start said) = 0 < length said

-- the body is that of such an answer
abbrev pub AnswerNeedsMemory : List ℕ → Type 0
AnswerNeedsMemory body = (answer : Answer) × IsAnswerBody answer body × HoldsParts answer

-- what is told of a cell fits its fields
abbrev pub ToldFits : Option Item → Type 0
ToldFits told = IfSome told (λ item. SaidFits item)

-- the bytes are what is told of this many cells
abbrev pub AreTold : ℕ → List ℕ → Type 0
AreTold count bytes = AreParts ToldFits told_fields count bytes
