-- The edits of a session's step, and their effect on the cells and on the room in memory.
use Rattle.std.specs.Prelude.{◌≡◌, ◌⊎◌, ◌+◌, ℕ, List, [], ◌∷◌, Some, None, slice_get, ⊤}
use Rattle.std.specs.Ordering.{nat_cmp}
use Rattle.std.specs.BTreeMap as btree
use Rattle.cell_key.specs.Cells.{Cells}
use Rattle.cell_key.specs.declared.edits.Edit.{Edit}
use Rattle.cell_key.specs.declared.keys.Qualifier.TheVariants.{Data, Lock}
use Rattle.cell_key.specs.Columns.{lock_text}
use Rattle.cell_key.specs.LockEdits.{IsPut, IsRecording}
use Rattle.rows.specs.Calls.{AppliesSuch, OnlyReads, View}
use Rattle.rows.specs.Room.{AreAfter, HasNoRoom, TakesNoRoom, TakesRoomOf}
use Rattle.si_model.specs.Machine as machine
use Rattle.si_model.specs.Machine.{State, Change, Writes, InPhase, Wrote, Puts, Marked, Clashes}
use Rattle.si_model.specs.Edits.{RecordsCell}
use Rattle.si_model.specs.ShowsCells.{key_of, kind_of_change}
use Rattle.si_model.specs.declared.replies.Cell.{Cell}
use Rattle.si_model.specs.declared.replies.Progress.{Progress}
use Rattle.si_model.specs.declared.replies.Progress.TheVariants as progress
use Rattle.txn_client.specs.Reads.{IsFree, IsTaken}
use Rattle.txn_client.specs.Shows.{InEachShown}
use Rattle.txn_client.specs.declared.sessions.Clients.{Clients}
use Rattle.txn_client.specs.declared.session.Phase.{Phase}
use Rattle.txn_client.specs.declared.session.Phase.TheVariants.{Open, Holding, Stamped, Finishing}
use Rattle.txn_client.specs.declared.session.Session.{Session}
use Rattle.txn_client.specs.declared.writes.Write.{Write as Writing}

-- the lock of t on x, which names the row and family of the first cell and the kind of the write
abbrev pub IsLocking : Cell → ℕ → Change → Cell → Edit → Type 0
IsLocking x t v first lock = IsPut lock (key_of x Lock t) (lock_text first.row first.family (kind_of_change v))

-- the edits that hold x for t: its lock, and its data if it is a set
abbrev pub IsHolding : Cell → ℕ → Change → Cell → List Edit → Type 0
IsHolding x t (Some v) first (value ∷ lock ∷ []) =
    IsPut value (key_of x Data t) v × IsLocking x t (Some v) first lock
IsHolding x t None first (lock ∷ []) = IsLocking x t None first lock
IsHolding x t v first edits = ⊥

-- the row and the edits by which t holds x
abbrev pub HoldsCell : Cell → ℕ → Change → Cell → List ℕ → List Edit → Type 0
HoldsCell x t v first row edits = (row ≡ x.row) × IsHolding x t v first edits

-- ---- the edits of a session's next step, from its phase, its commit stamp and its writes

-- the row and the edits by which a session holds its cell k; if the rows are intact, the cell is free
abbrev pub HoldsAt : Type 0 → Cells → Session → ℕ → List ℕ → List Edit → Type 0
HoldsAt Holds cells session k row edits =
    (write first : Writing)
    × (slice_get session.writes k ≡ Some write) × (slice_get session.writes 0 ≡ Some first)
    × (Holds → IsFree cells write.cell session.start)
    × HoldsCell write.cell session.start write.value first.cell row edits

-- the row and the edits by which a session records its cell k
abbrev pub RecordsAt : Type 0 → Cells → Session → ℕ → List ℕ → List Edit → Type 0
RecordsAt Holds cells session k row edits =
    (write : Writing) × (slice_get session.writes k ≡ Some write)
    × RecordsCell Holds cells write.cell session.start session.commit
    (kind_of_change write.value) row edits

abbrev pub EditsIn : Phase → Type 0 → Cells → Session → List ℕ → List Edit → Type 0
EditsIn Open Holds cells session row edits = HoldsAt Holds cells session 0 row edits
EditsIn (Holding k) Holds cells session row edits = HoldsAt Holds cells session k row edits
EditsIn Stamped Holds cells session row edits = RecordsAt Holds cells session 0 row edits
EditsIn (Finishing k) Holds cells session row edits = RecordsAt Holds cells session k row edits

abbrev pub EditsOf : Type 0 → Cells → Session → List ℕ → List Edit → Type 0
EditsOf Holds cells session row edits = EditsIn session.phase Holds cells session row edits

-- the row and the edits of the next step of the session stored at t
abbrev pub EditsOfStep : Type 0 → Cells → Clients → ℕ → List ℕ → List Edit → Type 0
EditsOfStep Holds cells clients t row edits =
    (session : Session) × (btree.get nat_cmp clients.sessions t ≡ Some session)
    × EditsOf Holds cells session row edits

-- A step that holds a cell or commits makes these edits; a step that finishes a cell makes them or none. No other step
-- changes a cell or takes room.
abbrev pub Does : {R : Type 0} → View R → (List ℕ → List Edit → Type 0) → Progress → R → R → Type 0
Does seen Such (progress.Held k n) old new = AppliesSuch seen Such old new
Does seen Such (progress.Committed c) old new = AppliesSuch seen Such old new
Does seen Such (progress.Finished k n) old new =
    AppliesSuch seen Such old new ⊎ OnlyReads seen old new
Does seen Such p old new = OnlyReads seen old new

-- ---- why it meets a conflict

-- the cell k of a session, which has this place, counted from 1, isn't free if the rows are intact
abbrev pub MeetsAt : Type 0 → Cells → Session → ℕ → ℕ → Type 0
MeetsAt Holds cells session k place =
    (write : Writing) × (slice_get session.writes k ≡ Some write) × (place ≡ k + 1)
    × (Holds → IsTaken cells write.cell session.start)

-- the next cell that a session in this phase holds, at this place, isn't free
abbrev pub MeetsIn : Phase → Type 0 → Cells → Session → ℕ → Type 0
MeetsIn Open Holds cells session place = MeetsAt Holds cells session 0 place
MeetsIn (Holding k) Holds cells session place = MeetsAt Holds cells session k place
MeetsIn phase Holds cells session place = ⊥

-- the same of the session stored at t
abbrev pub MeetsNext : Type 0 → Cells → Clients → ℕ → ℕ → Type 0
MeetsNext Holds cells clients t place =
    (session : Session) × (btree.get nat_cmp clients.sessions t ≡ Some session)
    × MeetsIn session.phase Holds cells session place

-- a property of the place of a conflict, if the step met one
abbrev pub IfConflict : (ℕ → Type 0) → Progress → Type 0
IfConflict P (progress.Conflict place) = P place
IfConflict P p = ⊤

-- ---- the same edits, from a state of the machine

-- the row and the edits by which t holds its cell k, which nothing blocks
abbrev pub HoldsNext : State → Writes → ℕ → ℕ → List ℕ → List Edit → Type 0
HoldsNext st ws k t row edits =
    (x first : Cell) × (v u : Change) × Puts ws k x v
    × Puts ws 0 first u × (¬ Clashes st x t) × (row ≡ x.row) × IsHolding x t v first edits

-- the row and the edits by which t puts the write record of its cell k, whose mark is still there
abbrev pub RecordsNext : State → Writes → ℕ → ℕ → ℕ → List ℕ → List Edit → Type 0
RecordsNext st ws k t c row edits =
    (x : Cell)
    × (v : Change) × Puts ws k x v × Marked st x t
    × (row ≡ x.row) × IsRecording x.row x.family t c (kind_of_change v) edits

-- the row and the edits of the next step of t, in this phase and with these writes; empty for a step that makes no
-- edits
abbrev pub ChangesIn : State → machine.Phase → Writes → ℕ → List ℕ → List Edit → Type 0
ChangesIn st machine.Open ws t row edits = HoldsNext st ws 0 t row edits
ChangesIn st (machine.Holding k) ws t row edits = HoldsNext st ws k t row edits
ChangesIn st (machine.Stamped c) ws t row edits = RecordsNext st ws 0 t c row edits
ChangesIn st (machine.Finishing c k) ws t row edits = RecordsNext st ws k t c row edits

abbrev pub ChangesNext : State → ℕ → List ℕ → List Edit → Type 0
ChangesNext st t row edits =
    (phase : machine.Phase)
    × (ws : Writes) × InPhase st t phase × Wrote st t ws × ChangesIn st phase ws t row edits

-- A step that holds a cell or commits made these edits of a row; a step that finishes a cell made them or none. No
-- other step changes a cell.
abbrev pub Makes : (List ℕ → List Edit → Type 0) → Progress → Cells → Cells → Type 0
Makes Changes (progress.Held k n) old new = AreAfter Changes old new
Makes Changes (progress.Committed c) old new = AreAfter Changes old new
Makes Changes (progress.Finished k n) old new = AreAfter Changes old new ⊎ (new ≡ old)
Makes Changes p old new = new ≡ old

-- a commit stamp was drawn
abbrev pub IsStamped : Progress → Type 0
IsStamped (progress.Stamped c) = ⊤
IsStamped p = ⊥

-- A step that makes these edits takes their room; no other step takes any.
abbrev pub TakesRoom : {R : Type 0}
    → (R → List ℕ → List Edit → Type 0) → (List ℕ → List Edit → Type 0) → Progress → R → R → Type 0
TakesRoom overfills Changes (progress.Held k n) old new = TakesRoomOf overfills Changes old new
TakesRoom overfills Changes (progress.Committed c) old new = TakesRoomOf overfills Changes old new
TakesRoom overfills Changes (progress.Finished k n) old new = TakesRoomOf overfills Changes old new
TakesRoom overfills Changes p old new = TakesNoRoom overfills old new

-- ---- all effects of an accepted step

-- It makes the edits of the session's next step, or changes nothing. A cell that it names as in conflict isn't free. In
-- each state that is shown, its edits are also the machine's of that step, and it takes their room and no more.
pub record StepMakes {R : Type 0} (seen : View R) (clients : Clients) (t : ℕ) (progress : Progress)
    (old new : R) : Type 0 where
  pub does : Does seen (EditsOfStep (seen.holds old) (seen.cells old) clients t) progress old new
  pub met : IfConflict (MeetsNext (seen.holds old) (seen.cells old) clients t) progress
  pub made : seen.holds old → InEachShown (seen.cells old) clients (λ st.
      Makes (ChangesNext st t) progress (seen.cells old) (seen.cells new))
  pub room : seen.holds old → InEachShown (seen.cells old) clients (λ st.
      TakesRoom seen.overfills (ChangesNext st t) progress old new)

-- The rows have no room for the edits of the session's next step. In each state that is shown, they are also the
-- machine's of that step.
pub record LacksStepRoom {R : Type 0} (seen : View R) (clients : Clients) (t : ℕ) (rows : R)
    : Type 0 where
  pub edits : HasNoRoom seen.overfills rows
      (EditsOfStep (seen.holds rows) (seen.cells rows) clients t)
  pub shown : seen.holds rows → InEachShown (seen.cells rows) clients (λ st.
      HasNoRoom seen.overfills rows (ChangesNext st t))
