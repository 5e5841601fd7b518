-- The meaning of a verdict on two files.
use Rattle.std.specs.Prelude.{◌≡◌, ◌≢◌, ◌⊎◌, ℕ, ◌+◌, ◌<◌, ◌≤◌, List, [], ◌++◌, length, Option, Some}
use Rattle.std.specs.List.{AllByRecursion}
use Rattle.cell_key.specs.declared.refusals.Refusal.TheVariants.{BadRequest as TheBadRequest}
use Rattle.si_model.specs.Machine.{State, Refused, end_of_stamps}
use Rattle.si_model.specs.Transactions.{Operation, Answer, Said, Goes}
use Rattle.request_codec.specs.Stream.{frames, longest}
use Rattle.request_codec.specs.Answers.{IsAnswerBody, IsNoAnswer, answer_of}
use Rattle.request_codec.specs.Operations.{IsOperation, IsNoOperation, operation_of}
use Rattle.ownership.specs.Frames.{IsRead, frame_of}
use Rattle.audit.specs.Audits.{KeepsReached}
use Rattle.audit.specs.declared.audit.Audit.{Audit}
use Rattle.tablet_audit.specs.Frames.{BeginsWith, IsFlawed, IsUpTo}
use Rattle.tablet_audit.specs.Judges.{IsNotAllowed, Keeps}
use Rattle.tablet_audit.specs.Limits.{longest_replied}
use Rattle.tablet_audit.specs.Runs.{Answers, IsAnswerTo, Moment, Run, reopening_behind}
use Rattle.tablet_audit.specs.declared.frames.Flaw.{Flaw}
use Rattle.tablet_audit.specs.declared.frames.Flaw.TheVariants.{OutsideGrammar}
use Rattle.tablet_audit.specs.declared.judges.Judge.{Judge}
use Rattle.tablet_audit.specs.declared.reopenings.Reopening.{Reopening}
use Rattle.tablet_audit.specs.declared.sharing.Sharing.{Sharing}
use Rattle.tablet_audit.specs.declared.sharing.Sharing.TheVariants.{Alone, Shared}
use Rattle.tablet_audit.specs.declared.verdicts.Verdict.{Verdict}
use Rattle.tablet_audit.specs.declared.verdicts.Verdict.TheVariants.{Correct, NoStep, NotAllowed, BadRequest, BadReply, BadMark}

-- The first frames of both files are this many requests and their replies, which are a run to a moment that the judge
-- keeps. The rest of both files follows them.
pub record Passes (sharing : Sharing) (reopenings : List Reopening) (requests replies : List ℕ)
    (count : ℕ) (rest more : List ℕ) (judge : Judge) : Type 0 where
  pub bodies : List (List ℕ)
  pub answers : List (List ℕ)
  pub requests_begin : requests ≡ frames bodies ++ rest
  pub replies_begin : replies ≡ frames answers ++ more
  pub bodies_fit : AllByRecursion (IsUpTo longest) bodies
  pub answers_fit : AllByRecursion (IsUpTo (longest_replied sharing)) answers
  pub bodies_count : length bodies ≡ count
  pub answers_count : length answers ≡ count
  pub now : Moment
  pub run : Run sharing reopenings bodies answers now
  pub keeps : Keeps sharing judge now

-- ---- two bodies

-- the machine can't give this answer from any reached state that the audit keeps
abbrev pub IsNoStep : Audit → Operation → Answer → Type 0
IsNoStep audit operation answer =
    (st next : State) → KeepsReached audit st → Goes st operation answer next → ⊥

-- a body outside the grammar, with a reply other than BadRequest
abbrev pub IsWronglyRead : List ℕ → List ℕ → Type 0
IsWronglyRead body answer =
    IsNoOperation body × (said : Answer) × IsAnswerBody said answer
    × (said ≢ Said (Refused TheBadRequest))

-- the body is no answer's to any client
abbrev pub IsNoAnswerTo : List ℕ → Type 0
IsNoAnswerTo body = (client : ℕ) (said : Answer) → IsAnswerTo client said body → ⊥

-- the meaning of a verdict on the bodies of a request and its reply, of one client
abbrev pub EndsAlone : Audit → ℕ → List ℕ → List ℕ → Verdict → Type 0
EndsAlone audit number body answer (NoStep k operation said) = (k ≡ number)
    × IsOperation (operation_of operation) body × IsAnswerBody (answer_of said) answer
    × IsNoStep audit (operation_of operation) (answer_of said)
EndsAlone audit number body answer (BadRequest k flaw) =
    (k ≡ number) × (flaw ≡ OutsideGrammar) × IsWronglyRead body answer
EndsAlone audit number body answer (BadReply k flaw) =
    (k ≡ number) × (flaw ≡ OutsideGrammar) × IsNoAnswer answer
EndsAlone audit number body answer other = ⊥

-- the same of several clients
abbrev pub EndsShared : Option ℕ → Judge → ℕ → List ℕ → List ℕ → Verdict → Type 0
EndsShared admin judge number body answer (NotAllowed k frame to said) = (k ≡ number)
    × IsRead body frame × IsAnswerTo to (answer_of said) answer
    × IsNotAllowed admin judge (frame_of frame) to (answer_of said)
EndsShared admin judge number body answer (BadReply k flaw) =
    (k ≡ number) × (flaw ≡ OutsideGrammar) × IsNoAnswerTo answer
EndsShared admin judge number body answer other = ⊥

abbrev pub EndsWith : Sharing → Judge → ℕ → List ℕ → List ℕ → Verdict → Type 0
EndsWith Alone judge = EndsAlone judge.audit
EndsWith (Shared admin) judge = EndsShared admin judge

-- ---- both files

-- a stamp that was answered is above the mark, or the mark is not below the end of stamps
abbrev pub IsBadMark : ℕ → State → Type 0
IsBadMark mark st = (mark < st.top) ⊎ (end_of_stamps ≤ mark)

-- a store with a log was reopened over this mark
abbrev pub HasMark : Option Reopening → ℕ → Type 0
HasMark found mark = (it : Reopening) × (found ≡ Some it) × (it.mark ≡ Some mark)

module _ (sharing : Sharing) (reopenings : List Reopening) (judge : Judge) (number : ℕ)
    (rest more : List ℕ) where
  -- Both files go on with a frame, whose bodies have the verdict.
  abbrev pub EndsOnFrames : Verdict → Type 0
  EndsOnFrames verdict = (body answer : List ℕ) × BeginsWith longest rest body
      × BeginsWith (longest_replied sharing) more answer
      × EndsWith sharing judge number body answer verdict

  -- The meaning of a verdict for the next request and its reply, in terms of the rest of both files.
  abbrev pub EndsAt : Verdict → Type 0
  EndsAt (Correct its count) =
      (its ≡ sharing) × (count + 1 ≡ number) × (rest ≡ []) × (more ≡ [])
  EndsAt (NoStep k operation said) = EndsOnFrames (NoStep k operation said)
  EndsAt (NotAllowed k frame to said) = EndsOnFrames (NotAllowed k frame to said)
  EndsAt (BadRequest k flaw) =
      ((k ≡ number) × IsFlawed longest rest flaw × (rest ≡ [] → more ≢ []))
      ⊎ EndsOnFrames (BadRequest k flaw)
  EndsAt (BadReply k flaw) =
      ((k ≡ number) × (body : List ℕ) × BeginsWith longest rest body
      × IsFlawed (longest_replied sharing) more flaw)
      ⊎ EndsOnFrames (BadReply k flaw)
  EndsAt (BadMark k) = (k ≡ number)
      × (body answer : List ℕ) × BeginsWith longest rest body
      × BeginsWith (longest_replied sharing) more answer
      × (mark : ℕ) × HasMark (reopening_behind number reopenings) mark
      × ((now : Moment) → Keeps sharing judge now
      → (next : Moment) × Answers sharing body answer now next × IsBadMark mark next.state)

-- All requests and replies before the verdict are a run.
pub record IsVerdict (sharing : Sharing) (reopenings : List Reopening) (requests replies : List ℕ)
    (verdict : Verdict) : Type 0 where
  pub count : ℕ
  pub rest : List ℕ
  pub more : List ℕ
  pub judge : Judge
  pub passes : Passes sharing reopenings requests replies count rest more judge
  pub ends : EndsAt sharing reopenings judge (count + 1) rest more verdict
