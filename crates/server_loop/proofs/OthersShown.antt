-- Sessions, cleaners and collectors show the same while others take steps.
use Rattle.std.proofs.Common.{◌≡◌, ◌≢◌, ◌∙◌, sym, subst, ap}
use Rattle.cell_key.specs.Cells.{Cells}
use Rattle.si_model.proofs.ByServers.{by_servers}
use Rattle.si_model.specs.Collection.{ChangesCells}
use Rattle.si_model.specs.Kinds.{Kind, OfCleaners, OfCollectors, OfPlaces, OfSessions, kind_of}
use Rattle.si_model.specs.Machine.{State, Request, Reply, IsReached, Step}
use Rattle.si_model.specs.ShowsCells.{ShowsCells}
use Rattle.si_model.proofs.ChangedParts.{leaves_others}
use Rattle.txn_client.specs.Shows.{KnowsTop, ShowsClients}
use Rattle.txn_client.specs.declared.sessions.Clients.{Clients}
use Rattle.txn_client.proofs.Table.{shows_along}
use Rattle.clean_up.specs.Shows.{ShowsCleaners}
use Rattle.clean_up.specs.declared.cleaners.Cleaners.{Cleaners}
use Rattle.clean_up.proofs.Table.{shows_on}
use Rattle.version_collector.specs.Shows.{KnowsFloor, ShowsCollectors}
use Rattle.version_collector.specs.declared.collectors.Collectors.{Collectors}
use Rattle.version_collector.proofs.Table.{shows_on as collected_on}

-- ---- the kinds of requests

pub sessions_not_cleaners : OfSessions ≢ OfCleaners
sessions_not_cleaners is = cc

pub sessions_not_collectors : OfSessions ≢ OfCollectors
sessions_not_collectors is = cc

pub cleaners_not_sessions : OfCleaners ≢ OfSessions
cleaners_not_sessions is = cc

pub cleaners_not_collectors : OfCleaners ≢ OfCollectors
cleaners_not_collectors is = cc

pub collectors_not_sessions : OfCollectors ≢ OfSessions
collectors_not_sessions is = cc

pub collectors_not_cleaners : OfCollectors ≢ OfCleaners
collectors_not_cleaners is = cc

pub places_not_cleaners : OfPlaces ≢ OfCleaners
places_not_cleaners is = cc

pub places_not_collectors : OfPlaces ≢ OfCollectors
places_not_collectors is = cc

-- a request of one kind is of no other kind
pub not_kind : {kind one other : Kind} → kind ≡ one → one ≢ other → kind ≢ other
not_kind is differ same = differ (sym is ∙ same)

-- ---- unchanged by steps of others

module _ (st next : State) (q : Request) (r : Reply) (step : Step st q r next) where
  -- only a session's step changes what sessions show
  pub sessions_stay : (old new : Clients) → kind_of q ≢ OfSessions → new ≡ old → ShowsClients old st → ShowsClients new next
  sessions_stay old new other same shown =
      let left = (leaves_others st next q r step).sessions other in
      subst (λ (k : Clients). ShowsClients k next) (sym same) (shows_along old st next shown left.top left.begun left.active)

  -- and draws a stamp
  pub top_stays : (old new : Clients) → kind_of q ≢ OfSessions → new ≡ old → KnowsTop old st → KnowsTop new next
  top_stays old new other same known =
      ap (λ (k : Clients). k.top) same ∙ known ∙ sym ((leaves_others st next q r step).sessions other).top

  -- only a collector's step raises the floor
  pub floor_stays : (old new : Collectors) → kind_of q ≢ OfCollectors → new ≡ old → KnowsFloor old st → KnowsFloor new next
  floor_stays old new other same known =
      ap (λ (k : Collectors). k.greatest_floor) same ∙ known ∙ sym ((leaves_others st next q r step).collectors other).floor

  -- only a cleaner's step changes what cleaners show
  pub cleaners_stay : (old new : Cleaners) → IsReached st → kind_of q ≢ OfCleaners → new ≡ old → ShowsCleaners old st → ShowsCleaners new next
  cleaners_stay old new reached other same shown =
      subst (λ (k : Cleaners). ShowsCleaners k next) (sym same) (shows_on old st next q r (by_servers reached) step other shown)

  -- only a collector's step changes what collectors show, if it changes the cells as sessions and cleaners do
  pub collectors_stay : (cells cells' : Cells) (old new : Collectors) → IsReached st → ShowsCells cells st → kind_of q ≢ OfCollectors → ChangesCells cells st cells' → new ≡ old
      → ShowsCollectors cells old st → ShowsCollectors cells' new next
  collectors_stay cells cells' old new reached store other changes same shown =
      subst (λ (k : Collectors). ShowsCollectors cells' k next) (sym same) (collected_on cells cells' old st next q r (by_servers reached) store step other changes shown)
