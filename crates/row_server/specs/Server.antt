-- When a server that nobody else shares rows and stamps with shows a state of the machine.
use Rattle.std.specs.Prelude.{◌≡◌, ◌||◌, ◌≤◌, ℕ, Bool, false, true, IsSome}
use Rattle.rows.specs.Calls.{View}
use Rattle.rows.specs.Sources.{DrawsStamp, Source}
use Rattle.servers_model.specs.Servers.{Server, ShowsServer}
use Rattle.si_model.specs.Machine.{State, IsFloor}
use Rattle.si_model.specs.Servers.{IsReachedByServers}
use Rattle.si_model.specs.ShowsCells.{ShowsCells}
use Rattle.txn_client.specs.Shows.{KnowsTop, ShowsClients}
use Rattle.txn_client.specs.declared.sessions.Clients.{Clients}
use Rattle.version_collector.specs.Shows.{KnowsFloor}
use Rattle.row_server.specs.declared.server.RowServer.{RowServer}

-- its sessions, cleaners and collectors
abbrev pub memory_of : {R S : Type 0} → RowServer R S → Server
memory_of server =
    record {
      clients = server.clients;
      cleaners = server.cleaners;
      collectors = server.collectors;
    }

-- what calls of one server make of a source of stamps
pub data Continues {S : Type 0} (source : Source S) : S → S → Type 0 where
  stays : {stamps : S} → Continues source stamps stamps
  draws : {old mid new : S} {stamp : ℕ} → DrawsStamp source old stamp mid
      → Continues source mid new → Continues source old new
  gives_up : {old mid new : S} → source.leaves old mid → Continues source mid new
      → Continues source old new
  publishes : {old mid new : S} → source.last mid ≡ source.last old
      → source.known mid ≡ source.known old → Continues source mid new → Continues source old new

-- nobody else draws: the source knows its last stamp, and still does after any calls of this server
abbrev pub StaysKnown : {S : Type 0} → Source S → S → Type 0
StaysKnown source stamps = (later : _) → Continues source stamps later → IsSome (source.known later)

-- The rows' premise holds. Their cells, the sessions and the last stamp show the state, and so do the cleaners and the
-- collectors. Nobody else draws stamps or begins collectors.
pub record Shows {R S : Type 0} (seen : View R) (source : Source S) (server : RowServer R S)
    (st : State) : Type 0 where
  pub holds : seen.holds server.rows
  pub store : ShowsCells (seen.cells server.rows) st
  pub top : st.top ≤ source.last server.stamps
  pub memory : ShowsServer (seen.cells server.rows) (memory_of server) st
  pub knows_top : KnowsTop server.clients st
  pub knows_floor : KnowsFloor server.collectors st
  pub known : StaysKnown source server.stamps

-- it is the machine's floor if these are all sessions
abbrev pub IsOwnFloor : Clients → ℕ → Type 0
IsOwnFloor clients floor =
    (st : State) → IsReachedByServers st → ShowsClients clients st → KnowsTop clients st
    → IsFloor st floor

-- whether the rows or the stamps are lost for good
abbrev pub is_lost : {R S : Type 0} → (R → Bool) → (S → Bool) → RowServer R S → Bool
is_lost rows_lost stamps_lost server = rows_lost server.rows || stamps_lost server.stamps

-- nothing changes, and the rows and the stamps are there: the answers may leave
abbrev pub MayLeave : {R S : Type 0} → (R → Bool) → (S → Bool) → RowServer R S → RowServer R S
    → Type 0
MayLeave rows_lost stamps_lost old new =
    (new ≡ old) × (is_lost rows_lost stamps_lost old ≡ false)

-- nothing changes, and the rows or the stamps are lost: no answer leaves
abbrev pub MayNotLeave : {R S : Type 0} → (R → Bool) → (S → Bool) → RowServer R S → RowServer R S
    → Type 0
MayNotLeave rows_lost stamps_lost old new =
    (new ≡ old) × (is_lost rows_lost stamps_lost old ≡ true)
