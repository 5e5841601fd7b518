-- The judgement of one request and its reply.
use Rattle.std.specs.Prelude.{◌≡◌, ℕ, List, [], Option, Some, None}
use Rattle.si_model.specs.Machine.{State}
use Rattle.request_codec.specs.Stream.{longest}
use Rattle.audit.specs.Audits.{KeepsReached}
use Rattle.audit.specs.declared.audit.Audit.{Audit}
use Rattle.tablet_audit.specs.Frames.{Splits}
use Rattle.tablet_audit.specs.Judges.{Follows}
use Rattle.tablet_audit.specs.Limits.{longest_replied}
use Rattle.tablet_audit.specs.Runs.{Answers, AnswersAlone, AnswersShared}
use Rattle.tablet_audit.specs.Verdicts.{EndsAlone, EndsAt, EndsShared, EndsWith}
use Rattle.tablet_audit.specs.declared.judges.Judge.{Judge}
use Rattle.tablet_audit.specs.declared.reopenings.Reopening.{Reopening}
use Rattle.tablet_audit.specs.declared.sharing.Sharing.{Sharing}
use Rattle.tablet_audit.specs.declared.sharing.Sharing.TheVariants.{Shared}
use Rattle.tablet_audit.specs.declared.verdicts.Verdict.{Verdict}

-- Of one client. Without a verdict, the audit continues from the reply.
abbrev pub JudgesAlone : Audit → Audit → ℕ → List ℕ → List ℕ → Option Verdict → Type 0
JudgesAlone old new number body answer None = (st : State) → KeepsReached old st
    → (next : State) × AnswersAlone body answer st next × KeepsReached new next
JudgesAlone old new number body answer (Some verdict) = EndsAlone old number body answer verdict

-- The same of several clients.
abbrev pub JudgesShared : Option ℕ → Judge → Judge → ℕ → List ℕ → List ℕ → Option Verdict → Type 0
JudgesShared admin old new number body answer None =
    Follows (Shared admin) old new (AnswersShared admin body answer)
JudgesShared admin old new number body answer (Some verdict) =
    EndsShared admin old number body answer verdict

-- Without a verdict, the judge continues from the reply.
abbrev pub JudgesBodies
    : Sharing → Judge → Judge → ℕ → List ℕ → List ℕ → Option Verdict → Type 0
JudgesBodies sharing old new number body answer None =
    Follows sharing old new (Answers sharing body answer)
JudgesBodies sharing old new number body answer (Some verdict) =
    EndsWith sharing old number body answer verdict

-- Without a verdict, both files continue after one frame each, and the judge from the reply.
pub record GoesOn (sharing : Sharing) (old new : Judge) (rest more rest' more' : List ℕ)
    : Type 0 where
  pub body : List ℕ
  pub answer : List ℕ
  pub request_splits : Splits longest rest body rest'
  pub reply_splits : Splits (longest_replied sharing) more answer more'
  pub follows : Follows sharing old new (Answers sharing body answer)

-- both files are at their end
abbrev pub IsAtEnd : List ℕ → List ℕ → Type 0
IsAtEnd rest more = (rest ≡ []) × (more ≡ [])

-- the meaning of a verdict that comes before a reopening
abbrev pub StopsAt : Sharing → Judge → ℕ → List ℕ → List ℕ → Verdict → Type 0
StopsAt sharing judge number rest more verdict =
    (reopenings : List Reopening) → EndsAt sharing reopenings judge number rest more verdict
