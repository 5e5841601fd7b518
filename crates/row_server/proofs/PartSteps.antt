-- A server's steps, from those of its sessions, cleaners and collectors.
use Rattle.std.proofs.Common.{◌≡◌, ◌≢◌, ◌≤◌, ◌∙◌, inl, inr, ℕ, Option, Some, None, sym, subst, ap, refl, arith}
use Rattle.std.specs.Prelude.{IfSome, IsSome}
use Rattle.cell_key.specs.declared.refusals.Refusal.TheVariants.{Damaged}
use Rattle.clean_up.specs.Shows.{ShowsCleaners}
use Rattle.clean_up.specs.declared.cleaners.Cleaners.{Cleaners}
use Rattle.clean_up.proofs.Table.{shows_on as cleaned_on}
use Rattle.rows.specs.Calls.{View}
use Rattle.rows.specs.Sources.{DrawsStamp, IsLeft, Source}
use Rattle.server_loop.specs.Runs.{StepsAs}
use Rattle.servers_model.specs.Serves.{ServesCleaner, ServesSession}
use Rattle.si_model.proofs.ByServers.{by_servers}
use Rattle.si_model.proofs.ChangedParts.{leaves_others}
use Rattle.si_model.specs.Kinds.{Kind, OfCleaners, OfCollectors, OfSessions, kind_of}
use Rattle.si_model.specs.Machine.{State, Request, Reply, Refused, IsReached, Step}
use Rattle.si_model.specs.ShowsCells.{ShowsCells}
use Rattle.si_model.specs.declared.replies.Progress.{Progress}
use Rattle.si_model.specs.declared.replies.Progress.TheVariants as progresses
use Rattle.txn_client.specs.Shows.{DrawsIn, ShowsClients}
use Rattle.txn_client.specs.declared.sessions.Clients.{Clients}
use Rattle.txn_client.proofs.Table.{shows_along}
use Rattle.version_collector.specs.Shows.{KnowsFloor, ShowsCollectors}
use Rattle.version_collector.specs.declared.collectors.Collectors.{Collectors}
use Rattle.version_collector.proofs.Table.{shows_on as collected_on}
use Rattle.row_server.specs.Server.{StaysKnown, Shows, stays, draws, gives_up, publishes}
use Rattle.row_server.specs.declared.server.RowServer.{RowServer}

-- ---- the kinds of requests

sessions_not_cleaners : OfSessions ≢ OfCleaners
sessions_not_cleaners is = cc

sessions_not_collectors : OfSessions ≢ OfCollectors
sessions_not_collectors is = cc

cleaners_not_sessions : OfCleaners ≢ OfSessions
cleaners_not_sessions is = cc

cleaners_not_collectors : OfCleaners ≢ OfCollectors
cleaners_not_collectors is = cc

collectors_not_sessions : OfCollectors ≢ OfSessions
collectors_not_sessions is = cc

collectors_not_cleaners : OfCollectors ≢ OfCleaners
collectors_not_cleaners is = cc

-- a request of one kind is of no other kind
not_kind : {kind one other : Kind} → kind ≡ one → one ≢ other → kind ≢ other
not_kind is differ same = differ (sym is ∙ same)

low_by : {a b c d : ℕ} → a ≡ b → c ≡ d → b ≤ d → a ≤ c
low_by is same low = omega arith

-- ---- steps

module _ {R S : Type 0} (seen : View R) (source : Source S) (old new : RowServer R S) (q : Request) (r : Reply) (still : seen.holds old.rows → seen.holds new.rows)
    (whole : (st : State) → IsReached st → Shows seen source old st → r ≡ Refused Damaged → ⊥)
  where
    -- a step of a session, which leaves cleaners and collectors unchanged
    pub session_steps : new.cleaners ≡ old.cleaners → new.collectors ≡ old.collectors → (StaysKnown source old.stamps → StaysKnown source new.stamps)
        → (seen.holds old.rows → ServesSession (seen.cells old.rows) old.clients (source.last old.stamps) q r (seen.cells new.rows) new.clients (source.last new.stamps))
        → StepsAs (Shows seen source) old new q r
    session_steps same_cleaners same_collectors known serves = λ before reached shown.
        let by = by_servers reached in
        let p = serves shown.holds in
        let (next, taken, shows, top) = p.steps before by (record { store = shown.store; sessions = shown.memory.sessions; top = shown.top }) in
        let after : Shows seen source new next = record {
          holds = still shown.holds;
          store = shows.store;
          top = shows.top;
          memory = record {
            sessions = shows.sessions;
            cleaners = subst (λ (k : Cleaners). ShowsCleaners k next) (sym same_cleaners) (cleaned_on old.cleaners before next q r by taken (not_kind p.kind sessions_not_cleaners) shown.memory.cleaners);
            collectors = subst (λ (k : Collectors). ShowsCollectors (seen.cells new.rows) k next) (sym same_collectors)
                (collected_on (seen.cells old.rows) (seen.cells new.rows) old.collectors before next q r by shown.store taken (not_kind p.kind sessions_not_collectors) (p.changed before by shown.store shown.memory.sessions) shown.memory.collectors);
          };
          knows_top = top shown.knows_top;
          knows_floor = ap (λ (k : Collectors). k.greatest_floor) same_collectors ∙ shown.knows_floor ∙ sym ((leaves_others before next q r taken).collectors (not_kind p.kind sessions_not_collectors)).floor;
          known = known shown.known;
        } in
        (next, taken, after, whole before reached shown)

    -- a step of a cleaner, which leaves sessions, collectors and stamps unchanged
    pub cleaner_steps : new.clients ≡ old.clients → new.collectors ≡ old.collectors → new.stamps ≡ old.stamps
        → (seen.holds old.rows → ServesCleaner (seen.cells old.rows) old.cleaners q r (seen.cells new.rows) new.cleaners)
        → StepsAs (Shows seen source) old new q r
    cleaner_steps same_clients same_collectors same_stamps serves = λ before reached shown.
        let by = by_servers reached in
        let p = serves shown.holds in
        let (next, taken, store, cleaners) = p.steps before by shown.store shown.memory.cleaners in
        let left = (leaves_others before next q r taken).sessions (not_kind p.kind cleaners_not_sessions) in
        let after : Shows seen source new next = record {
          holds = still shown.holds;
          store = store;
          top = low_by left.top (ap source.last same_stamps) shown.top;
          memory = record {
            sessions = subst (λ (k : Clients). ShowsClients k next) (sym same_clients) (shows_along old.clients before next shown.memory.sessions left.top left.begun left.active);
            cleaners = cleaners;
            collectors = subst (λ (k : Collectors). ShowsCollectors (seen.cells new.rows) k next) (sym same_collectors)
                (collected_on (seen.cells old.rows) (seen.cells new.rows) old.collectors before next q r by shown.store taken (not_kind p.kind cleaners_not_collectors) (p.changed before by shown.store shown.memory.cleaners) shown.memory.collectors);
          };
          knows_top = ap (λ (k : Clients). k.top) same_clients ∙ shown.knows_top ∙ sym left.top;
          knows_floor = ap (λ (k : Collectors). k.greatest_floor) same_collectors ∙ shown.knows_floor ∙ sym ((leaves_others before next q r taken).collectors (not_kind p.kind cleaners_not_collectors)).floor;
          known = subst (StaysKnown source) (sym same_stamps) shown.known;
        } in
        (next, taken, after, whole before reached shown)

    -- a step of a collector, which leaves sessions and cleaners unchanged, and the last stamp
    pub collector_steps : kind_of q ≡ OfCollectors → new.clients ≡ old.clients → new.cleaners ≡ old.cleaners → source.last new.stamps ≡ source.last old.stamps
        → (StaysKnown source old.stamps → StaysKnown source new.stamps)
        → ((st : State) → IsReached st → Shows seen source old st
        → (next : State) × Step st q r next × ShowsCells (seen.cells new.rows) next × ShowsCollectors (seen.cells new.rows) new.collectors next
        × (KnowsFloor old.collectors st → KnowsFloor new.collectors next))
        → StepsAs (Shows seen source) old new q r
    collector_steps kind same_clients same_cleaners same_last known steps = λ before reached shown.
        let (next, taken, store, collectors, floor) = steps before reached shown in
        let left = (leaves_others before next q r taken).sessions (not_kind kind collectors_not_sessions) in
        let after : Shows seen source new next = record {
          holds = still shown.holds;
          store = store;
          top = low_by left.top same_last shown.top;
          memory = record {
            sessions = subst (λ (k : Clients). ShowsClients k next) (sym same_clients) (shows_along old.clients before next shown.memory.sessions left.top left.begun left.active);
            cleaners = subst (λ (k : Cleaners). ShowsCleaners k next) (sym same_cleaners) (cleaned_on old.cleaners before next q r (by_servers reached) taken (not_kind kind collectors_not_cleaners) shown.memory.cleaners);
            collectors = collectors;
          };
          knows_top = ap (λ (k : Clients). k.top) same_clients ∙ shown.knows_top ∙ sym left.top;
          knows_floor = floor shown.knows_floor;
          known = known shown.known;
        } in
        (next, taken, after, whole before reached shown)

-- ---- the last stamp stays known

-- what is so if a value is there
pub given : (P : Type 0) (o : Option ℕ) → IsSome o → IfSome o (λ last. P) → P
given P None some is = absurd cc
given P (Some last) some is = is

module _ {S : Type 0} (source : Source S) where
  pub known_drawn : (old new : S) (stamp : ℕ) → DrawsStamp source old stamp new → StaysKnown source old → StaysKnown source new
  known_drawn old new stamp drawn known later more = known later (draws drawn more)

  pub known_left : (old new : S) → IsLeft source old new → StaysKnown source old → StaysKnown source new
  known_left old new (inl same) known = subst (StaysKnown source) (sym same) known
  known_left old new (inr left) known = λ later more. known later (gives_up left more)

  pub known_published : (old new : S) → source.last new ≡ source.last old → source.known new ≡ source.known old → StaysKnown source old → StaysKnown source new
  known_published old new last same known later more = known later (publishes last same more)

  pub known_step : (old new : S) (progress : Progress) → DrawsIn source old new progress → StaysKnown source old → StaysKnown source new
  known_step old new (progresses.Held place count) is known = subst (StaysKnown source) (sym is) known
  known_step old new (progresses.Conflict place) is known = subst (StaysKnown source) (sym is) known
  known_step old new (progresses.Stamped stamp) is known = known_drawn old new stamp is known
  known_step old new (progresses.Committed stamp) is known = subst (StaysKnown source) (sym is) known
  known_step old new progresses.Lost is known = subst (StaysKnown source) (sym is) known
  known_step old new (progresses.Finished place count) is known = subst (StaysKnown source) (sym is) known

  -- a begin that was refused, if the last stamp was known
  pub known_refused : (old new : S) → IfSome (source.known old) (λ last. IsLeft source old new) → StaysKnown source old → StaysKnown source new
  known_refused old new left known = known_left old new (given (IsLeft source old new) (source.known old) (known old stays) left) known

-- a server that has published a floor shows the same
module _ {R S : Type 0} (seen : View R) (source : Source S) (old : RowServer R S) (stamps : S) (answered : ℕ) where
  pub published_shown : source.last stamps ≡ source.last old.stamps → source.known stamps ≡ source.known old.stamps → (st : State) → Shows seen source old st
      → Shows seen source (record old { stamps = stamps; answered = answered }) st
  published_shown last same st shown = record {
    holds = shown.holds;
    store = shown.store;
    top = low_by refl last shown.top;
    memory = shown.memory;
    knows_top = shown.knows_top;
    knows_floor = shown.knows_floor;
    known = known_published source old.stamps stamps last same shown.known;
  }
