-- A run over a recording: requests, their answers, and the places at which the store was reopened. A request may stand
-- for several of the machine's. Several clients may have sent them.
use Rattle.std.specs.Prelude.{◌≡◌, ◌⊎◌, ℕ, ◌+◌, List, [], ◌∷◌, ◌++◌, length, nat_eq, Option, Some, None}
use Rattle.std.specs.List.{find}
use Rattle.cell_key.specs.declared.refusals.Refusal.TheVariants.{BadRequest}
use Rattle.si_model.specs.Machine.{State, Refused, new_machine, reopened}
use Rattle.si_model.specs.Transactions.{Operation, Answer, Said, Goes}
use Rattle.audit.specs.Audits.{ReopensOver}
use Rattle.request_codec.specs.Answers.{IsAnswerBody}
use Rattle.request_codec.specs.Operations.{IsOperation, IsNoOperation}
use Rattle.ownership.specs.Frames.{IsBodyOf, IsOfClient}
use Rattle.ownership.specs.Tables.{Table, nobodys}
use Rattle.ownership.specs.Turns.{Frame, Handles}
use Rattle.tablet_audit.specs.declared.reopenings.Reopening.{Reopening}
use Rattle.tablet_audit.specs.declared.sharing.Sharing.{Sharing}
use Rattle.tablet_audit.specs.declared.sharing.Sharing.TheVariants.{Alone, Shared}

-- what a run has come to: the machine's state, and whose is what is open there
pub record Moment : Type 0 where
  pub state : State
  pub table : Table

-- a new store, where nobody has anything
abbrev pub beginning : Moment
beginning = record { state = new_machine; table = nobodys }

-- ---- a request and its answer

-- One client: the machine may give the answer of a body in the grammar, and goes on from there. Any other body is
-- answered BadRequest, and the machine is unchanged.
abbrev pub AnswersAlone : List ℕ → List ℕ → State → State → Type 0
AnswersAlone body answer st next = (said : Answer) × IsAnswerBody said answer
    × (((operation : Operation) × IsOperation operation body × Goes st operation said next)
    ⊎ (IsNoOperation body × (said ≡ Said (Refused BadRequest)) × (next ≡ st)))

-- the body is that of an answer to this client
abbrev pub IsAnswerTo : ℕ → Answer → List ℕ → Type 0
IsAnswerTo client said body =
    (rest : List ℕ) × IsOfClient client rest body × IsAnswerBody said rest

-- the frame may be answered so, to this client
abbrev pub HandlesSo : Option ℕ → Frame → ℕ → Answer → Moment → Moment → Type 0
HandlesSo admin frame to said now next =
    Handles admin now.state now.table frame to said next.state next.table

-- several clients: what the body says is answered as it may be, to the right client
abbrev pub AnswersShared : Option ℕ → List ℕ → List ℕ → Moment → Moment → Type 0
AnswersShared admin body answer now next =
    (frame : Frame) × (to : ℕ) × (said : Answer) × IsBodyOf frame body × IsAnswerTo to said answer
    × HandlesSo admin frame to said now next

abbrev pub Answers : Sharing → List ℕ → List ℕ → Moment → Moment → Type 0
Answers Alone body answer now next =
    AnswersAlone body answer now.state next.state × (next.table ≡ now.table)
Answers (Shared admin) body answer now next = AnswersShared admin body answer now next

-- ---- a run

-- the first of the reopenings after the reply with this number
abbrev pub reopening_behind : ℕ → List Reopening → Option Reopening
reopening_behind number reopenings = find (λ it. nat_eq it.behind number) reopenings

-- A store without a log is reopened by a clean restart, a store with a log over this mark.
abbrev pub OpensOver : Option ℕ → State → State → Type 0
OpensOver None st next = next ≡ reopened st
OpensOver (Some mark) st next = ReopensOver mark st next

-- the same at a place of the recording, if the store was reopened there: then nobody has anything
abbrev pub OpensAgain : Option Reopening → Moment → Moment → Type 0
OpensAgain None now next = next ≡ now
OpensAgain (Some reopening) now next =
    OpensOver reopening.mark now.state next.state × (next.table ≡ nobodys)

-- A run from a new store to this moment, by these requests and replies in order. The store is reopened after some of
-- them.
pub data Run (sharing : Sharing) (reopenings : List Reopening)
    : List (List ℕ) → List (List ℕ) → Moment → Type 0 where
  begins_new : Run sharing reopenings [] [] beginning
  goes_on : {bodies answers : List (List ℕ)} (body answer : List ℕ) {now : Moment} (mid : Moment)
      {next : Moment}
      → Run sharing reopenings bodies answers now → Answers sharing body answer now mid
      → OpensAgain (reopening_behind (length bodies + 1) reopenings) mid next
      → Run sharing reopenings (bodies ++ body ∷ []) (answers ++ answer ∷ []) next
