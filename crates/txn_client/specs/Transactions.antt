-- Requests that stand for several of a session: what they come to, and their refusals.
use Rattle.std.specs.Prelude.{◌≡◌, ◌≢◌, ⊤, ℕ, ◌+◌, ◌<◌, ◌≤◌, ◌-◌, ◌^◌, None, Result, IsErrOf}
use Rattle.std.specs.Ordering.{nat_cmp}
use Rattle.std.specs.BTreeMap as btree
use Rattle.cell_key.specs.Cells.{Cells}
use Rattle.cell_key.specs.declared.refusals.Refusal.{Refusal}
use Rattle.cell_key.specs.declared.refusals.Refusal.TheVariants.{UnknownSession, WrongPhase, BadRow, BadColumn, BadValue, TooManyWrites, TooManySessions, EmptyCommit, BadCount, MemtableFull, Exhausted, Device, NoMemory, Damaged}
use Rattle.si_model.specs.Machine.{State}
use Rattle.si_model.specs.Servers.{IsReachedByServers}
use Rattle.si_model.specs.Transactions.{Answer, Operation, Goes}
use Rattle.txn_client.specs.Shows.{IsCrowded, IsInactive, IsLate, IsOpenSession, KnowsTop, Shows}
use Rattle.txn_client.specs.declared.sessions.Clients.{Clients}

-- From each reached state that is shown before, the request may be answered so, and leads to a state that is shown
-- after. If the top was the greatest stamp answered, it is that after it.
abbrev pub GoesAs : Cells → Clients → ℕ → Operation → Answer → Cells → Clients → ℕ → Type 0
GoesAs cells clients last operation answer cells' clients' last' =
    (st : State) → IsReachedByServers st → Shows cells clients last st
    → (next : State) × Goes st operation answer next × Shows cells' clients' last' next
    × (KnowsTop clients st → KnowsTop clients' next)

-- the session of a request: the one that is named, which is open, or one that may begin with the next stamp
pub record HasSession (clients : Clients) (last start s : ℕ) : Type 0 where
  pub is_open : start ≢ 0 → (s ≡ start) × IsOpenSession clients start
  pub is_new : start ≡ 0 → (s ≡ last + 1) × (s < 2 ^ 63)
      × (btree.btree_map_len clients.sessions < 1024)

-- why it has none
abbrev pub IsSessionRefusal : Clients → ℕ → ℕ → Refusal → Type 0
IsSessionRefusal clients last start UnknownSession =
    (start ≢ 0) × (btree.get nat_cmp clients.sessions start ≡ None)
IsSessionRefusal clients last start WrongPhase = (start ≢ 0) × IsLate clients start
IsSessionRefusal clients last start TooManySessions =
    (start ≡ 0) × (1024 ≤ btree.btree_map_len clients.sessions)
IsSessionRefusal clients last start Exhausted =
    (start ≡ 0) × (btree.btree_map_len clients.sessions < 1024) × (last ≡ 2 ^ 63 - 1)
IsSessionRefusal clients last start _ = ⊥

-- The session of a request, and the last stamp after it: a new session's start is drawn.
pub record DrawsSession (clients : Clients) (last last' start s : ℕ) : Type 0 where
  pub session : HasSession clients last start s
  pub drawn : start ≡ 0 → last' ≡ s

-- Why a request is refused in this state, whatever memory there is: the session that is named isn't active, or no
-- further one may begin.
abbrev pub SessionCauses : {T : Type 0} → State → ℕ → Result T Refusal → Type 0
SessionCauses st start result =
    (start ≢ 0 → IsInactive st start → IsErrOf result UnknownSession)
    × (start ≡ 0 → IsCrowded st → IsErrOf result TooManySessions)

abbrev pub IsReadRequestRefusal : Refusal → Type 0
IsReadRequestRefusal UnknownSession = ⊤
IsReadRequestRefusal WrongPhase = ⊤
IsReadRequestRefusal BadRow = ⊤
IsReadRequestRefusal BadColumn = ⊤
IsReadRequestRefusal TooManySessions = ⊤
IsReadRequestRefusal BadCount = ⊤
IsReadRequestRefusal Exhausted = ⊤
IsReadRequestRefusal Device = ⊤
IsReadRequestRefusal NoMemory = ⊤
IsReadRequestRefusal Damaged = ⊤
IsReadRequestRefusal _ = ⊥

abbrev pub IsCommitRefusal : Refusal → Type 0
IsCommitRefusal UnknownSession = ⊤
IsCommitRefusal WrongPhase = ⊤
IsCommitRefusal BadRow = ⊤
IsCommitRefusal BadColumn = ⊤
IsCommitRefusal BadValue = ⊤
IsCommitRefusal TooManyWrites = ⊤
IsCommitRefusal TooManySessions = ⊤
IsCommitRefusal EmptyCommit = ⊤
IsCommitRefusal MemtableFull = ⊤
IsCommitRefusal Exhausted = ⊤
IsCommitRefusal Device = ⊤
IsCommitRefusal NoMemory = ⊤
IsCommitRefusal Damaged = ⊤
IsCommitRefusal _ = ⊥
