-- What a server promises of one of its requests: what the contracts of its calls say, whatever other servers do.
use Rattle.std.specs.Prelude.{◌≡◌, ◌≢◌, ℕ, Result}
use Rattle.cell_key.specs.Cells.{Cells}
use Rattle.cell_key.specs.declared.refusals.Refusal.{Refusal}
use Rattle.si_model.specs.Collection.{ChangesCells, Collects}
use Rattle.si_model.specs.Kinds.{kind_of, OfSessions, OfCleaners, OfCollectors}
use Rattle.si_model.specs.Machine.{State, Request, Reply, CollectBegin}
use Rattle.si_model.specs.Servers.{IsBelowAll, IsReachedByServers}
use Rattle.si_model.specs.ShowsCells.{ShowsCells}
use Rattle.txn_client.specs.Shows as sessions
use Rattle.txn_client.specs.Shows.{ShowsClients}
use Rattle.txn_client.specs.declared.sessions.Clients.{Clients}
use Rattle.clean_up.specs.Shows as clean
use Rattle.clean_up.specs.declared.cleaners.Cleaners.{Cleaners}
use Rattle.version_collector.specs.Shows as collect
use Rattle.version_collector.specs.Shows.{BeginsWith, ShowsCollectors}
use Rattle.version_collector.specs.declared.collectors.Collectors.{Collectors}
use Rattle.servers_model.specs.Servers.{Server}

-- a session's request, over the cells and the last stamp when it changes its row or draws its stamp
pub record ServesSession (cells : Cells) (clients : Clients) (last : ℕ) (q : Request) (r : Reply)
    (cells' : Cells) (clients' : Clients) (last' : ℕ) : Type 0 where
  pub kind : kind_of q ≡ OfSessions
  -- it is a step of the machine that the server sees
  pub steps : sessions.Steps cells clients last q r cells' clients' last'
  -- the cells change as by a session's step
  pub changed : sessions.InEachShown cells clients (λ st. ChangesCells cells st cells')

-- a cleaner's request
pub record ServesCleaner (cells : Cells) (cleaners : Cleaners) (q : Request) (r : Reply)
    (cells' : Cells) (cleaners' : Cleaners) : Type 0 where
  pub kind : kind_of q ≡ OfCleaners
  pub steps : clean.Steps cells cleaners q r cells' cleaners'
  pub changed : clean.InEachShown cells cleaners (λ st. ChangesCells cells st cells')

-- a request of a collector that has begun
pub record ServesCollector (cells : Cells) (collectors : Collectors) (q : Request) (r : Reply)
    (cells' : Cells) (collectors' : Collectors) : Type 0 where
  pub kind : kind_of q ≡ OfCollectors
  pub has_begun : q ≢ CollectBegin
  pub steps : collect.Steps cells collectors q r cells' collectors'
  pub collects : collect.InEachShown cells collectors (λ st. Collects cells cells' st)

-- a server's request
pub data Serves (cells : Cells) (server : Server) (last : ℕ) (q : Request) (r : Reply)
    (cells' : Cells) : Server → ℕ → Type 0 where
  of_session : {clients' : Clients} {last' : ℕ}
      → ServesSession cells server.clients last q r cells' clients' last'
      → Serves cells server last q r cells' (record server { clients = clients' }) last'
  of_cleaner : {cleaners' : Cleaners}
      → ServesCleaner cells server.cleaners q r cells' cleaners'
      → Serves cells server last q r cells' (record server { cleaners = cleaners' }) last
  of_collector : {collectors' : Collectors}
      → ServesCollector cells server.collectors q r cells' collectors'
      → Serves cells server last q r cells' (record server { collectors = collectors' }) last

-- a collector begins with this floor, or isn't begun
abbrev pub BeginsCollector : Collectors → ℕ → Result ℕ Refusal → Collectors → Type 0
BeginsCollector collectors floor result collectors' =
    (cells : Cells) (st : State) → IsReachedByServers st → ShowsCells cells st
    → ShowsCollectors cells collectors st → BeginsWith cells collectors' floor result st

-- A floor that a server may publish: it isn't above any session of the server, now or later.
abbrev pub MayPublish : Clients → ℕ → Type 0
MayPublish clients floor =
    (st : State) → IsReachedByServers st → ShowsClients clients st → IsBelowAll st floor
