-- When cells and sessions show a state of the snapshot machine.
use Rattle.std.specs.Prelude.{◌≡◌, ◌≢◌, ℕ, ◌≤◌, ◌⊎◌, ⊤, cond, [], map, length, Option, Some, None}
use Rattle.std.specs.Ordering.{nat_cmp}
use Rattle.std.specs.BTreeMap as btree
use Rattle.std.specs.FinMap as finmap
use Rattle.cell_key.specs.Cells.{Cells}
use Rattle.cell_key.specs.declared.refusals.Refusal.{Refusal}
use Rattle.cell_key.specs.declared.refusals.Refusal.TheVariants.{UnknownSession, WrongPhase, BadCount}
use Rattle.rows.specs.Sources.{DrawsStamp, Source}
use Rattle.si_model.specs.Machine as machine
use Rattle.si_model.specs.Machine.{State, Request, Reply, Step, InPhase, Wrote, Writes}
use Rattle.si_model.specs.Reads.{IsNameRefusal}
use Rattle.si_model.specs.Replies.{progress_reply}
use Rattle.si_model.specs.Servers.{IsReachedByServers}
use Rattle.si_model.specs.ShowsCells.{ShowsCells, TouchesOneRow}
use Rattle.si_model.specs.declared.replies.Cell.{Cell}
use Rattle.si_model.specs.declared.replies.Progress.{Progress}
use Rattle.si_model.specs.declared.replies.Progress.TheVariants as progress
use Rattle.si_model.specs.Scans.{HasFamilies, HasRows}
use Rattle.txn_client.specs.Ranges.{IsRangeRefusal}
use Rattle.txn_client.specs.Scans.{IsScanCount}
use Rattle.txn_client.specs.Writes.{write_of}
use Rattle.txn_client.specs.declared.sessions.Clients.{Clients}
use Rattle.txn_client.specs.declared.session.Session.{Session}
use Rattle.txn_client.specs.declared.session.Phase.{Phase}
use Rattle.txn_client.specs.declared.session.Phase.TheVariants.{Open, Holding, Stamped, Finishing}
use Rattle.txn_client.specs.declared.session.Outcome.{Outcome}

-- the phase of a session with this commit stamp
abbrev pub phase_of : Phase → ℕ → machine.Phase
phase_of Open c = machine.Open
phase_of (Holding k) c = machine.Holding k
phase_of Stamped c = machine.Stamped c
phase_of (Finishing k) c = machine.Finishing c k

abbrev pub writes_of : Session → Writes
writes_of session = map write_of session.writes

-- the session that began at t is this one
pub record ShowsSession (session : Session) (t : ℕ) (st : State) : Type 0 where
  pub start : session.start ≡ t
  pub phase : InPhase st t (phase_of session.phase session.commit)
  pub writes : Wrote st t (writes_of session)

-- the entry at t is the session that began at t, if one is active
abbrev pub ShowsAt : Option Session → ℕ → State → Type 0
ShowsAt None t st = finmap.get st.active t ≡ None
ShowsAt (Some session) t st = ShowsSession session t st

-- a session that has just begun
abbrev pub open_session : ℕ → Session
open_session start = record { start = start; commit = start; phase = Open; writes = [] }

-- how many sessions are stored
abbrev pub session_count : Clients → ℕ
session_count clients = btree.btree_map_len clients.sessions

-- The stored sessions are the active ones, and the top is at most the greatest stamp answered: other servers may draw
-- stamps, too.
pub record ShowsClients (clients : Clients) (st : State) : Type 0 where
  pub top : clients.top ≤ st.top
  pub sessions : (t : ℕ) → ShowsAt (btree.get nat_cmp clients.sessions t) t st
  pub count : finmap.len st.active ≡ session_count clients

-- the top is the greatest stamp answered: no other server has drawn one since
abbrev pub KnowsTop : Clients → State → Type 0
KnowsTop clients st = clients.top ≡ st.top

-- Cells and sessions show the state, and the last stamp is not below its top.
pub record Shows (cells : Cells) (clients : Clients) (last : ℕ) (st : State) : Type 0 where
  pub store : ShowsCells cells st
  pub sessions : ShowsClients clients st
  pub top : st.top ≤ last

-- From each reached state that is shown before, the machine may give this reply, and goes to a state that is shown
-- after. If the top was the greatest stamp answered, it is that after it.
abbrev pub Steps : Cells → Clients → ℕ → Request → Reply → Cells → Clients → ℕ → Type 0
Steps cells clients last request reply cells' clients' last' =
    (st : State) → IsReachedByServers st → Shows cells clients last st
    → (next : State) × Step st request reply next × Shows cells' clients' last' next
    × (KnowsTop clients st → KnowsTop clients' next)

-- it holds in each reached state that cells and sessions show
abbrev pub InEachShown : Cells → Clients → (State → Type 0) → Type 0
InEachShown cells clients IsSo =
    (st : State) → IsReachedByServers st → ShowsCells cells st → ShowsClients clients st → IsSo st

-- c is the commit stamp that t has drawn
abbrev pub HasDrawn : State → ℕ → ℕ → Type 0
HasDrawn st t c =
    InPhase st t (machine.Stamped c) ⊎ ((k : ℕ) × InPhase st t (machine.Finishing c k))

-- At most one row's keys change, and each added key has the stamp of t, or the commit stamp that t has drawn.
abbrev pub TouchesFor : State → ℕ → Cells → Cells → Type 0
TouchesFor st t cells cells' =
    (cells' ≡ cells) ⊎ (TouchesOneRow cells cells' t t
    ⊎ ((c : ℕ) × HasDrawn st t c × TouchesOneRow cells cells' t c))

-- the last stamp after a step
abbrev pub top_after : ℕ → Progress → ℕ
top_after top (progress.Stamped c) = c
top_after top p = top

-- a step draws no stamp
abbrev pub DrawsNone : Progress → Type 0
DrawsNone (progress.Stamped c) = ⊥
DrawsNone p = ⊤

-- A stamp that a step draws comes from the source. Any other step leaves the source unchanged.
abbrev pub DrawsIn : {S : Type 0} → Source S → S → S → Progress → Type 0
DrawsIn source old new (progress.Stamped c) = DrawsStamp source old c new
DrawsIn source old new p = new ≡ old

-- the same sessions, and the same top, with as many bytes buffered and the same limit
pub record SameClients (old new : Clients) : Type 0 where
  pub top : new.top ≡ old.top
  pub buffered : new.buffered ≡ old.buffered
  pub limit : new.most_buffered ≡ old.most_buffered
  pub each : (t : ℕ) → btree.get nat_cmp new.sessions t ≡ btree.get nat_cmp old.sessions t

-- the most sessions are active
abbrev pub IsCrowded : State → Type 0
IsCrowded st = machine.most_sessions ≤ finmap.len st.active

-- no session that began at t is active
abbrev pub IsInactive : State → ℕ → Type 0
IsInactive st t = finmap.get st.active t ≡ None

-- the session that began at t is open, and has no writes
abbrev pub IsUnwritten : State → ℕ → Type 0
IsUnwritten st t = InPhase st t machine.Open × Wrote st t []

-- the next step of t draws its commit stamp
abbrev pub IsAboutToDraw : State → ℕ → Type 0
IsAboutToDraw st t = (ws : Writes) × Wrote st t ws × InPhase st t (machine.Holding (length ws))

-- a stored session that takes reads and writes
abbrev pub IsOpenSession : Clients → ℕ → Type 0
IsOpenSession clients t =
    (session : Session)
    × (btree.get nat_cmp clients.sessions t ≡ Some session) × (session.phase ≡ Open)

-- a stored session that takes no more reads and writes
abbrev pub IsLate : Clients → ℕ → Type 0
IsLate clients t =
    (session : Session)
    × (btree.get nat_cmp clients.sessions t ≡ Some session) × (session.phase ≢ Open)

-- why a request on a cell is refused before the cell is read
abbrev pub IsCellRefusal : Clients → ℕ → Cell → Refusal → Type 0
IsCellRefusal clients t x UnknownSession = btree.get nat_cmp clients.sessions t ≡ None
IsCellRefusal clients t x WrongPhase = IsLate clients t
IsCellRefusal clients t x refusal = IsOpenSession clients t × IsNameRefusal x refusal

-- why a scan is refused before it reads a cell
abbrev pub IsScanCause : Clients → ℕ → machine.Range → ℕ → Refusal → Type 0
IsScanCause clients t range cells UnknownSession = btree.get nat_cmp clients.sessions t ≡ None
IsScanCause clients t range cells WrongPhase = IsLate clients t
IsScanCause clients t range cells BadCount =
    IsOpenSession clients t × HasRows range × HasFamilies range × ¬ IsScanCount cells
IsScanCause clients t range cells refusal = IsOpenSession clients t × IsRangeRefusal range refusal

-- the effect of a step of one session: the machine takes the step, and goes to a state with this session
pub record Follows (st next : State) (session : Session) (outcome : Outcome) : Type 0 where
  pub begun : next.begun ≡ st.begun
  pub active : next.active ≡ cond outcome.ended (finmap.remove st.active session.start)
      (finmap.insert st.active session.start (phase_of session.phase session.commit))
  pub top : next.top ≡ top_after st.top outcome.progress

abbrev pub Advances : Cells → Session → ℕ → Outcome → Cells → Session → ℕ → Type 0
Advances cells session last outcome cells' session' last' =
    (st : State) → IsReachedByServers st → ShowsCells cells st
    → ShowsSession session session.start st → st.top ≤ last
    → (next : State)
    × Step st (machine.Advance session.start) (progress_reply outcome.progress) next
    × ShowsCells cells' next × Follows st next session' outcome × (next.top ≤ last')

-- the session has held k cells and has no commit stamp
abbrev pub HasHeldSo : Phase → ℕ → Type 0
HasHeldSo phase k = (phase ≡ Holding k) ⊎ ((phase ≡ Open) × (k ≡ 0))

-- the session has no cell left for its next step
abbrev pub HasNoNext : Phase → ℕ → Type 0
HasNoNext Open n = n ≤ 0
HasNoNext (Holding k) n = (n ≤ k) × (k ≢ n)
HasNoNext Stamped n = n ≤ 0
HasNoNext (Finishing k) n = n ≤ k

-- the row and the stamps that a step of a session in this phase changes
abbrev pub TouchesBy : Phase → Cells → Cells → ℕ → ℕ → Type 0
TouchesBy Open cells cells' s c = TouchesOneRow cells cells' s s
TouchesBy (Holding k) cells cells' s c = TouchesOneRow cells cells' s s
TouchesBy Stamped cells cells' s c = TouchesOneRow cells cells' s c
TouchesBy (Finishing k) cells cells' s c = TouchesOneRow cells cells' s c
