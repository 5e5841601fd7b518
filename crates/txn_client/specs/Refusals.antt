-- The refusals of each call, the reasons to refuse a step of a session, and the effects of a refused step.
use Rattle.std.specs.Prelude.{◌≡◌, ◌≤◌, ◌⊎◌, ◌^◌, ◌-◌, ⊤, ℕ, IfErr, IfSome, IsErrOf, Option, Result, Some, slice_get}
use Rattle.std.specs.BTreeMap as btree
use Rattle.std.specs.Ordering.{nat_cmp}
use Rattle.cell_key.specs.Faults.{HasReason}
use Rattle.cell_key.specs.declared.refusals.Refusal.{Refusal}
use Rattle.cell_key.specs.declared.refusals.Refusal.TheVariants.{UnknownSession, WrongPhase, BadRow, BadColumn, BadValue, TooManyWrites, TooManySessions, EmptyCommit, BadCount, MemtableFull, Exhausted, Device, NoMemory, Damaged}
use Rattle.oracle.specs.Marks.{MayHold}
use Rattle.oracle.specs.Ranges.{OracleState, next_range_end}
use Rattle.rows.specs.Calls.{OnlyReads, View}
use Rattle.rows.specs.Sources.{IsDrawRefusal, IsLeft, Source}
use Rattle.si_model.specs.Machine.{State}
use Rattle.txn_client.specs.Shows.{IsAboutToDraw, IsInactive, IsUnwritten}
use Rattle.txn_client.specs.declared.session.Phase.{Phase}
use Rattle.txn_client.specs.declared.session.Phase.TheVariants.{Open, Holding, Stamped, Finishing}
use Rattle.txn_client.specs.declared.session.Session.{Session}
use Rattle.txn_client.specs.declared.sessions.Clients.{Clients}
use Rattle.txn_client.specs.declared.writes.Write.{Write}

abbrev pub IsBeginRefusal : Refusal → Type 0
IsBeginRefusal TooManySessions = ⊤
IsBeginRefusal Exhausted = ⊤
IsBeginRefusal Device = ⊤
IsBeginRefusal NoMemory = ⊤
IsBeginRefusal _ = ⊥

-- why a session that may begin doesn't
abbrev pub IsStartRefusal : Refusal → Type 0
IsStartRefusal Exhausted = ⊤
IsStartRefusal Device = ⊤
IsStartRefusal NoMemory = ⊤
IsStartRefusal _ = ⊥

abbrev pub IsGetRefusal : Refusal → Type 0
IsGetRefusal UnknownSession = ⊤
IsGetRefusal WrongPhase = ⊤
IsGetRefusal BadRow = ⊤
IsGetRefusal BadColumn = ⊤
IsGetRefusal Device = ⊤
IsGetRefusal NoMemory = ⊤
IsGetRefusal Damaged = ⊤
IsGetRefusal _ = ⊥

abbrev pub IsScanRefusal : Refusal → Type 0
IsScanRefusal UnknownSession = ⊤
IsScanRefusal WrongPhase = ⊤
IsScanRefusal BadRow = ⊤
IsScanRefusal BadColumn = ⊤
IsScanRefusal BadCount = ⊤
IsScanRefusal Device = ⊤
IsScanRefusal NoMemory = ⊤
IsScanRefusal Damaged = ⊤
IsScanRefusal _ = ⊥

abbrev pub IsSetRefusal : Refusal → Type 0
IsSetRefusal UnknownSession = ⊤
IsSetRefusal WrongPhase = ⊤
IsSetRefusal BadRow = ⊤
IsSetRefusal BadColumn = ⊤
IsSetRefusal BadValue = ⊤
IsSetRefusal TooManyWrites = ⊤
IsSetRefusal NoMemory = ⊤
IsSetRefusal _ = ⊥

abbrev pub IsDeleteRefusal : Refusal → Type 0
IsDeleteRefusal UnknownSession = ⊤
IsDeleteRefusal WrongPhase = ⊤
IsDeleteRefusal BadRow = ⊤
IsDeleteRefusal BadColumn = ⊤
IsDeleteRefusal TooManyWrites = ⊤
IsDeleteRefusal NoMemory = ⊤
IsDeleteRefusal _ = ⊥

abbrev pub IsStepRefusal : Refusal → Type 0
IsStepRefusal UnknownSession = ⊤
IsStepRefusal EmptyCommit = ⊤
IsStepRefusal MemtableFull = ⊤
IsStepRefusal Exhausted = ⊤
IsStepRefusal Device = ⊤
IsStepRefusal NoMemory = ⊤
IsStepRefusal Damaged = ⊤
IsStepRefusal _ = ⊥

-- The refusals of a row transaction: Damaged only if the row isn't readable.
abbrev pub IsRowRefusal : Type 0 → Refusal → Type 0
IsRowRefusal Readable MemtableFull = ⊤
IsRowRefusal Readable Device = ⊤
IsRowRefusal Readable NoMemory = ⊤
IsRowRefusal Readable Damaged = ¬ Readable
IsRowRefusal Readable _ = ⊥

-- The refusals of a session's step on a cell: the same, or EmptyCommit if the session has no next cell.
abbrev pub IsCellStepRefusal : Type 0 → Type 0 → Refusal → Type 0
IsCellStepRefusal Readable HasNone EmptyCommit = HasNone
IsCellStepRefusal Readable HasNone refusal = IsRowRefusal Readable refusal

-- The refusals of any step of a session: the same, or Exhausted from the source of stamps.
abbrev pub IsAdvanceRefusal : Type 0 → Type 0 → Refusal → Type 0
IsAdvanceRefusal Readable HasNone Exhausted = ⊤
IsAdvanceRefusal Readable HasNone refusal = IsCellStepRefusal Readable HasNone refusal

-- ---- the row that a step of a session reads

-- the index of the step's cell in the session's writes
abbrev pub next_cell : Phase → ℕ
next_cell Open = 0
next_cell (Holding k) = k
next_cell Stamped = 0
next_cell (Finishing k) = k

-- the row of the session's cell k is readable
abbrev pub IsReadableAt : {R : Type 0} → View R → R → Session → ℕ → Type 0
IsReadableAt seen rows session k =
    (write : Write) → slice_get session.writes k ≡ Some write → seen.readable rows write.cell.row

-- the same for the next cell of the session at t
abbrev pub IsNextReadable : {R : Type 0} → View R → R → Clients → ℕ → Type 0
IsNextReadable seen rows clients t =
    (session : Session) → btree.get nat_cmp clients.sessions t ≡ Some session
    → IsReadableAt seen rows session (next_cell session.phase)

-- A device's fault is answered only if one of two counts has risen. The other count is unchanged.
abbrev pub HasOneReason : {T : Type 0} → ℕ → ℕ → ℕ → ℕ → Result T Refusal → Type 0
HasOneReason before now before' now' result =
    (HasReason before now result × (now' ≡ before'))
    ⊎ (HasReason before' now' result × (now ≡ before))

-- ---- a refused step of a session, and a refused Read

-- It leaves the rows unchanged, and the source of stamps, or as a refused draw leaves it.
pub record StepLeaves {R S : Type 0} (seen : View R) (source : Source S) (old new : R)
    (stamps stamps' : S) : Type 0 where
  pub same : OnlyReads seen old new
  pub rises : source.last stamps ≤ source.last stamps'
  pub left : IsLeft source stamps stamps'

-- It leaves the rows, the oracle's last stamp and its range unchanged. The mark is unchanged too, or it is the end of
-- the next range.
pub record ReadLeaves {R M : Type 0} (seen : View R) (mark_of : M → Option ℕ) (old new : R)
    (oracle oracle' : OracleState M) : Type 0 where
  pub same : OnlyReads seen old new
  pub stays : oracle'.last ≡ oracle.last
  pub range : oracle'.range_end ≡ oracle.range_end
  pub mark : MayHold (next_range_end oracle.range_end) (mark_of oracle.marks) (mark_of oracle'.marks)

-- Why a step of t is refused in this state: no session that began at t is active, or it has no writes. A step that
-- draws the commit stamp allocates nothing.
pub record StepCauses {T : Type 0} (st : State) (t : ℕ) (result : Result T Refusal) : Type 0 where
  pub unknown : IsInactive st t → IsErrOf result UnknownSession
  pub empty : IsUnwritten st t → IsErrOf result EmptyCommit
  pub drawing : IsAboutToDraw st t → IfErr result IsDrawRefusal

-- No stamp is left: the last one, if it is known, is the greatest. Only a step that draws meets this, and it leaves the
-- source unchanged.
pub record HasNoStamp {S : Type 0} (Draws : Type 0) (source : Source S) (old new : S)
    : Type 0 where
  pub exhausted : IfSome (source.known old) (λ last. last ≡ 2 ^ 63 - 1)
  pub draw_only : Draws
  pub undrawn : new ≡ old
