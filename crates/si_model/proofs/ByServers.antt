-- Runs of one server are runs of several of which the others do nothing.
use Rattle.std.proofs.Common.{◌≡◌, ℕ, List, Some, ◌∙◌, sym}
use Rattle.std.specs.Ordering.{nat_cmp}
use Rattle.std.specs.FinMap.{empty, get, get-empty}
use Rattle.std.proofs.lemmas.Option.{none-some}
use Rattle.si_model.specs.Machine.{State, Request, Reply, Step, refuses, accepts, Run, rests, goes_on, IsReached, begins_new, runs, reopens, most_cleaners, most_collectors}
use Rattle.si_model.specs.Servers.{Own, IsPartOf, IsReachedByServers, starts_new, acts, sees}
use Rattle.si_model.proofs.OpenNumbers.{none_open}

-- a server without sessions, cleaners and collectors
abbrev pub own_nothing : Own
own_nothing = record { sessions = empty; cleaners = empty; next_cleaner = 1; collectors = empty; next_collector = 1 }

not_there : {X : Type 0} (v : X) (k : ℕ) → get (empty {X = X} {R = nat_cmp}) k ≡ Some v → ⊥
not_there v k h = none-some v (sym (get-empty nat_cmp k) ∙ h)

pub nothing_is_part : (st : State) → IsPartOf own_nothing st
nothing_is_part st = record {
  sessions = λ t p h. absurd (not_there p t h);
  cleaners = λ i k h. absurd (not_there k i h);
  collectors = λ i f h. absurd (not_there f i h);
  cleaner_numbers = none_open most_cleaners;
  collector_numbers = none_open most_collectors;
}

pub servers_step : {st next : State} {q : Request} {r : Reply} → IsReachedByServers st → Step st q r next → IsReachedByServers next
servers_step r (refuses n) = r
servers_step {st} r (accepts ok a) = acts st.active r ok a

servers_run : {st next : State} {qs : List Request} {rs : List Reply} → IsReachedByServers st → Run st qs rs next → IsReachedByServers next
servers_run r rests = r
servers_run r (goes_on s more) = servers_run (servers_step r s) more

pub by_servers : {st : State} → IsReached st → IsReachedByServers st
by_servers begins_new = starts_new
by_servers (runs r run) = servers_run (by_servers r) run
by_servers (reopens {st = st} r) = sees (by_servers r) (nothing_is_part st)
