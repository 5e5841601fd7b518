-- The machine's run over the stream that a server reads.
use Rattle.std.specs.Prelude.{◌≡◌, ℕ, ◌+◌, ◌≤◌, List, [], ◌∷◌, ◌⊎◌, ⊤}
use Rattle.cell_key.specs.declared.refusals.Refusal.{Refusal}
use Rattle.cell_key.specs.declared.refusals.Refusal.TheVariants.{BadRequest, FrameTooLarge, NoMemory, Damaged}
use Rattle.si_model.specs.Machine.{State, Reply, Refused, Step, IsReached}
use Rattle.si_model.specs.Transactions.{Operation, Answer, Said, Goes}
use Rattle.si_model.specs.Laws.{IsSettled, FirstCommitterWins, OneFate, OneMark}
use Rattle.si_model.specs.ScanLaws.{ScansSettled}
use Rattle.request_codec.specs.Answers.{answer_of}
use Rattle.request_codec.specs.Operations.{operation_of, IsOperation, IsNoOperation, NamesCells}
use Rattle.request_codec.specs.declared.answers.Answer.{Answer as CodecAnswer}
use Rattle.request_codec.specs.declared.operations.Operation.{Operation as Lent}
use Rattle.si_model.specs.Machine as machine

-- an input of the machine: a whole body, or a length past the limit
pub data Taken : Type 0 where
  Body : (body : List ℕ) → Taken
  Oversize : Taken

-- A body in the grammar is answered as the machine goes. Any other body is refused, and so is a length past the limit.
abbrev pub Answers : State → Taken → Answer → State → Type 0
Answers old (Body body) answer new =
    ((operation : Operation) × IsOperation operation body × Goes old operation answer new)
    ⊎ (IsNoOperation body × (answer ≡ Said (Refused BadRequest)) × (new ≡ old))
Answers old Oversize answer new = (answer ≡ Said (Refused FrameTooLarge)) × (new ≡ old)

-- one answer after the other
abbrev pub RunOver : State → List Taken → List Answer → State → Type 0
RunOver old [] [] new = new ≡ old
RunOver old (taken ∷ more) (answer ∷ answers) new =
    (mid : State) × Answers old taken answer mid × RunOver mid more answers new
RunOver old [] (answer ∷ answers) new = ⊥
RunOver old (taken ∷ more) [] new = ⊥

-- the laws of snapshot isolation at a state
pub record ObeysLaws (st : State) : Type 0 where
  -- each value answered is the last one committed by its session's start, in the commits as they are now
  pub settled : IsSettled st
  -- each scan's answer, for all cells that it covered, is right at its session's start, in the commits as they are now
  pub scans : ScansSettled st
  -- no two commits of one cell overlap
  pub first_committer : FirstCommitterWins st
  -- no start is both rolled back and committed, or committed twice
  pub one_fate : OneFate st
  -- a cell is held by at most one session
  pub one_mark : OneMark st

-- With these answers the machine went from a state to one that is shown and obeys the laws.
pub record RunsTo (before : State) (shown : State → Type 0) (taken : List Taken)
    (answers : List Answer) : Type 0 where
  pub after : State
  pub run : RunOver before taken answers after
  pub reached : IsReached after
  pub laws : ObeysLaws after
  pub shows : shown after

-- A run gives these answers, from each reached state that is shown before to one that is shown after.
abbrev pub RunsAs : {S : Type 0} → (S → State → Type 0) → S → S → List Taken → List Answer → Type 0
RunsAs shows old new taken answers =
    (before : State) → IsReached before → shows old before → RunsTo before (shows new) taken answers

-- A body that isn't read: it is no operation's, or it names cells and there is no memory to list them.
abbrev pub IsUnread : List ℕ → Answer → Type 0
IsUnread body answer =
    (IsNoOperation body × (answer ≡ Said (Refused BadRequest)))
    ⊎ (NamesCells body × (answer ≡ Said (Refused NoMemory)))

-- A body that is read is answered by the contract of its operation. Any other body, and a length past the limit, is
-- refused and changes nothing.
abbrev pub SaysOf : {S : Type 0} → (S → Lent → CodecAnswer → S → Type 0) → S → Taken → Answer → S
    → Type 0
SaysOf says old (Body body) answer new =
    ((operation : Lent) × (given : CodecAnswer) × IsOperation (operation_of operation) body
    × (answer ≡ answer_of given) × says old operation given new)
    ⊎ (IsUnread body answer × (new ≡ old))
SaysOf says old Oversize answer new = (answer ≡ Said (Refused FrameTooLarge)) × (new ≡ old)

module _ {S : Type 0} (says : S → Lent → CodecAnswer → S → Type 0) (between : S → S → Type 0) where
  -- One answer after the other, each followed by the upkeep before the next.
  abbrev pub SaysAll : S → List Taken → List Answer → S → Type 0
  SaysAll old [] [] new = new ≡ old
  SaysAll old (taken ∷ more) (answer ∷ answers) new =
      (mid next : S) × SaysOf says old taken answer mid × between mid next
      × SaysAll next more answers new
  SaysAll old [] (answer ∷ answers) new = ⊥
  SaysAll old (taken ∷ more) [] new = ⊥

-- These answers are given by a run of the machine. Each fulfils the contract of an answer, and is followed by the
-- upkeep.
pub record AnswersAs {S : Type 0} (shows : S → State → Type 0)
    (says : S → Lent → CodecAnswer → S → Type 0)
    (between : S → S → Type 0) (old new : S) (taken : List Taken)
    (answers : List Answer) : Type 0 where
  pub run : RunsAs shows old new taken answers
  pub said : SaysAll says between old taken answers new

-- The machine may answer so, from each reached state that is shown before to one that is shown after. The answer is
-- never Damaged.
abbrev pub GoesFrom : {S : Type 0} → (S → State → Type 0) → S → S → Operation → Answer → Type 0
GoesFrom shows old new operation answer = (before : State) → IsReached before → shows old before
    → (after : State) × Goes before operation answer after × shows new after
    × (answer ≡ Said (Refused Damaged) → ⊥)

-- This reply is a step of the machine, from each reached state that is shown before to one that is shown after. It is
-- never Damaged.
abbrev pub StepsAs : {S : Type 0} → (S → State → Type 0) → S → S → machine.Request → Reply → Type 0
StepsAs shows old new request reply = (before : State) → IsReached before → shows old before
    → (after : State) × Step before request reply after × shows new after
    × (reply ≡ Refused Damaged → ⊥)

-- a property of a reply's refusal, if it is one
abbrev pub IfRefused : (Refusal → Type 0) → Reply → Type 0
IfRefused P (Refused refusal) = P refusal
IfRefused P reply = ⊤

-- a property of an answer's refusal, if it is one
abbrev pub IfAnswerRefused : (Refusal → Type 0) → Answer → Type 0
IfAnswerRefused P (Said reply) = IfRefused P reply
IfAnswerRefused P answer = ⊤

-- The oracle's last stamp after a reply: a stamp in the answer is the next one and becomes the last, a restart never
-- goes back, and any other reply leaves it unchanged.
abbrev pub StampsGoOn : Reply → ℕ → ℕ → Type 0
StampsGoOn (machine.Begun start) old new = (start ≡ old + 1) × (new ≡ start)
StampsGoOn (machine.Drawn stamp) old new = (stamp ≡ old + 1) × (new ≡ stamp)
StampsGoOn machine.RestartDone old new = old ≤ new
StampsGoOn reply old new = new ≡ old
