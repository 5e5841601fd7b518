-- When the cells and all servers show the machine: each server shows what it sees of it.
use Rattle.std.specs.Prelude.{◌≡◌, ◌≢◌, ℕ, ◌≤◌, None, Some, is_some, nat_eq, not, cond}
use Rattle.std.specs.FinMap.{empty, get, retain_keys}
use Rattle.cell_key.specs.Cells.{Cells}
use Rattle.si_model.specs.Machine.{State, Phase, InPhase}
use Rattle.si_model.specs.Servers.{Own, Sessions, IsBelowAll, IsPartOf, IsReachedByServers, view}
use Rattle.si_model.specs.ShowsCells.{ShowsCells}
use Rattle.txn_client.specs.Shows.{ShowsClients}
use Rattle.txn_client.specs.declared.sessions.Clients.{Clients}
use Rattle.clean_up.specs.Shows.{ShowsCleaners}
use Rattle.clean_up.specs.declared.cleaners.Cleaners.{Cleaners}
use Rattle.version_collector.specs.Shows.{ShowsCollectors}
use Rattle.version_collector.specs.declared.collectors.Collectors.{Collectors}

-- the memory of a server
pub record Server : Type 0 where
  pub clients : Clients
  pub cleaners : Cleaners
  pub collectors : Collectors

pub record ShowsServer (cells : Cells) (server : Server) (st : State) : Type 0 where
  pub sessions : ShowsClients server.clients st
  pub cleaners : ShowsCleaners server.cleaners st
  pub collectors : ShowsCollectors cells server.collectors st

-- no session is in both
abbrev pub AreApart : Sessions → Sessions → Type 0
AreApart mine theirs = (t : ℕ) (p : Phase) → get mine t ≡ Some p → get theirs t ≡ None

-- The cells of the one row store and the last stamp of the one source show the machine, and each server shows what it
-- sees of it. Each session is of one server, and not below the floor that this server has published.
pub record ShowsServers (cells : Cells) (servers : ℕ → Server) (floors : ℕ → ℕ) (last : ℕ)
    (st : State) (owns : ℕ → Own) : Type 0 where
  pub reached : IsReachedByServers st
  pub store : ShowsCells cells st
  pub top : st.top ≤ last
  pub parts : (i : ℕ) → IsPartOf (owns i) st
  pub apart : (i j : ℕ) → i ≢ j → AreApart (owns i).sessions (owns j).sessions
  pub whose : (t : ℕ) (p : Phase) → InPhase st t p → (i : ℕ) × (get (owns i).sessions t ≡ Some p)
  pub published : (i : ℕ) → IsBelowAll (view st (owns i)) (floors i)
  pub each : (i : ℕ) → ShowsServer cells (servers i) (view st (owns i))

-- the same, but for i
abbrev pub with_one : {A : Type 0} → (ℕ → A) → ℕ → A → ℕ → A
with_one all i one j = cond (nat_eq j i) one (all j)

-- the part of a server without sessions, cleaners and collectors
abbrev pub nothing : Own
nothing =
    record {
      sessions = empty;
      cleaners = empty;
      next_cleaner = 1;
      collectors = empty;
      next_collector = 1;
    }

-- all sessions but these
abbrev pub without : Sessions → Sessions → Sessions
without all these = retain_keys all (λ t. not (is_some (get these t)))

-- a server that has just begun: it has no sessions, cleaners and collectors, and need not know a stamp or a floor
abbrev pub IsNew : Server → Type 0
IsNew server =
    (cells : Cells) (st : State) → st.active ≡ empty → st.cleaners ≡ empty → st.next_cleaner ≡ 1
    → st.collectors ≡ empty → st.next_collector ≡ 1 → ShowsServer cells server st
