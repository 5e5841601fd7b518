-- The moments that a judge keeps, and its judgement of a client's frame.
use Rattle.std.specs.Prelude.{◌≡◌, ℕ, Bool, true, false, Option, ⊤}
use Rattle.si_model.specs.Machine.{State}
use Rattle.si_model.specs.Transactions.{Operation, Answer, Goes}
use Rattle.audit.specs.Audits.{KeepsReached}
use Rattle.ownership.specs.Tables.{Knows, table_of}
use Rattle.ownership.specs.Turns.{Frame, StopsSome, Turn}
use Rattle.tablet_audit.specs.Runs.{HandlesSo, Moment}
use Rattle.tablet_audit.specs.declared.judges.Judge.{Judge}
use Rattle.tablet_audit.specs.declared.sharing.Sharing.{Sharing}
use Rattle.tablet_audit.specs.declared.sharing.Sharing.TheVariants.{Alone, Shared}

-- with several clients, exactly what is open is a client's
abbrev pub IsKnown : Sharing → Moment → Type 0
IsKnown Alone now = ⊤
IsKnown (Shared admin) now = Knows now.table now.state

-- The judge keeps the moment: its audit keeps the state, which runs reach, and the table is its own.
pub record Keeps (sharing : Sharing) (judge : Judge) (now : Moment) : Type 0 where
  pub state : KeepsReached judge.audit now.state
  pub table : now.table ≡ table_of judge.owners
  pub known : IsKnown sharing now

-- from each moment that the old judge keeps, a run can go on so, to one that the new judge keeps
abbrev pub Follows : Sharing → Judge → Judge → (Moment → Moment → Type 0) → Type 0
Follows sharing old new goes =
    (now : Moment) → Keeps sharing old now
    → (next : Moment) × goes now next × Keeps sharing new next

-- in no moment that the judge keeps the frame may be answered so
abbrev pub IsNotAllowed : Option ℕ → Judge → Frame → ℕ → Answer → Type 0
IsNotAllowed admin judge frame to said =
    (now next : Moment) → Keeps (Shared admin) judge now
    → HandlesSo admin frame to said now next → ⊥

-- Yes: from each moment that is kept the frame may be answered so, and the judge goes on from there. No: from none.
abbrev pub JudgesFrame : Option ℕ → Judge → Judge → Frame → ℕ → Answer → Bool → Type 0
JudgesFrame admin old new frame to said true =
    Follows (Shared admin) old new (HandlesSo admin frame to said)
JudgesFrame admin old new frame to said false = IsNotAllowed admin old frame to said

-- ---- parts of it

-- the audit keeps the state, and exactly what is open is a client's
pub record KeepsKnown (judge : Judge) (st : State) : Type 0 where
  pub state : KeepsReached judge.audit st
  pub known : Knows (table_of judge.owners) st

-- Yes: the machine may answer the client so, and what was given and closed is noted. No: it may not.
abbrev pub JudgesTurn : Judge → Judge → ℕ → Operation → Answer → Bool → Type 0
JudgesTurn old new client operation said true = (st : State) → KeepsKnown old st
    → (next : State)
    × Turn st (table_of old.owners) client operation said next (table_of new.owners)
    × KeepsReached new.audit next
JudgesTurn old new client operation said false =
    (st next : State) → KeepsReached old.audit st → Goes st operation said next → ⊥

-- Yes: some of the client's sessions were stopped. No: that can't be, for no state is kept.
abbrev pub JudgesStops : Judge → Judge → ℕ → Bool → Type 0
JudgesStops old new client true = (st : State) → KeepsKnown old st
    → (next : State) × StopsSome client st (table_of old.owners) next (table_of new.owners)
    × KeepsKnown new next
JudgesStops old new client false = (st : State) → KeepsKnown old st → ⊥
