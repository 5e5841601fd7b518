-- A server's steps, from its collectors' steps.
use Rattle.std.proofs.Common.{◌≡◌, ◌≤◌, ◌⊎◌, ℕ, inl, inr, Option, Result, Ok, Err, IsErrOf, ap, arith, refl}
use Rattle.cell_key.specs.declared.refusals.Refusal.{Refusal}
use Rattle.cell_key.specs.declared.refusals.Refusal.TheVariants.{Damaged}
use Rattle.file_store.specs.Store.{Contents}
use Rattle.row_atomic.specs.Recorded.{seen_recorded}
use Rattle.row_atomic.specs.Clusters.{ClusterState, cells_in}
use Rattle.si_model.specs.Kinds.{OfCollectors, kind_of}
use Rattle.si_model.specs.Machine.{State, Request, Reply, Collecting, Refused, IsReached, Step}
use Rattle.si_model.specs.Replies.{collect_reply}
use Rattle.si_model.specs.ShowsCells.{ShowsCells}
use Rattle.si_model.specs.declared.replies.CollectReply.{CollectReply}
use Rattle.si_model.specs.declared.replies.CollectReply.TheVariants as collects
use Rattle.si_model.proofs.ChangedParts.{leaves_others}
use Rattle.request_codec.specs.declared.replies.Reply.TheVariants as codec
use Rattle.version_collector.specs.Shows.{KnowsFloor, ShowsCollectors}
use Rattle.server_loop.specs.declared.server.Server.{Server}
use Rattle.server_loop.specs.Server.{HoldsIn, Shows, server_cells}
use Rattle.server_loop.specs.Runs.{IfRefused, StampsGoOn, StepsAs}
use Rattle.server_loop.proofs.CleanSteps.{spots_in}
use Rattle.server_loop.proofs.SamePlaces.{KeepsPlaces}
use Rattle.server_loop.proofs.SplitSteps.{still_placed, still_next}
use Rattle.server_loop.proofs.SessionSteps.{as_refused, ok_not}
use Rattle.server_loop.proofs.OthersShown.{cleaners_stay, collectors_not_cleaners, collectors_not_sessions, not_kind, sessions_stay, top_stays}

-- ---- whole steps

module _ {F M W : Type 0} (contents : F → Option Contents) (old new : Server F M W) where
  -- a step of a collector, which leaves the tablets' places, the sessions and the cleaners unchanged
  pub collects_as : (request : Request) (reply : Reply) → KeepsPlaces request → kind_of request ≡ OfCollectors → new.clients ≡ old.clients → new.oracle.last ≡ old.oracle.last
      → new.cleaners ≡ old.cleaners
      → ((st : State) → IsReached st → Shows contents old st
      → (next : State) × Step st request reply next × ShowsCells (server_cells contents new) next × ShowsCollectors (server_cells contents new) new.collectors next
      × (KnowsFloor old.collectors st → KnowsFloor new.collectors next))
      → (HoldsIn contents old → HoldsIn contents new) → (seen_recorded contents).storage new.rows ≡ (seen_recorded contents).storage old.rows
      → ((st : State) → IsReached st → Shows contents old st → reply ≡ Refused Damaged → ⊥)
      → StepsAs (Shows contents) old new request reply
  collects_as request reply keeps kind same_clients same_last same_cleaners step still storage whole = λ before reached shown.
      let (next, taken, cells, collectors, known) = step before reached shown in
      let other = not_kind kind collectors_not_sessions in
      let after : Shows contents new next = record {
        in_order = still shown.in_order;
        shows = record {
          store = cells;
          sessions = sessions_stay before next request reply taken old.clients new.clients other same_clients shown.shows.sessions;
          top = no_higher ((leaves_others before next request reply taken).sessions other).top same_last shown.shows.top;
        };
        alone = (top_stays before next request reply taken old.clients new.clients other same_clients shown.alone.0, known shown.alone.1);
        cleaners = cleaners_stay before next request reply taken old.cleaners new.cleaners reached (not_kind kind collectors_not_cleaners) same_cleaners shown.cleaners;
        collectors = collectors;
        places = still_placed before next request reply taken keeps old.rows.cluster.places new.rows.cluster.places (ap spots_in storage) shown.places;
        next = still_next before next request reply taken keeps shown.next;
      } in
      (next, taken, after, whole before reached shown)
    where
      no_higher : {top top' last last' : ℕ} → top' ≡ top → last' ≡ last → top ≤ last → top' ≤ last'
      no_higher {top = top} {top' = top'} {last = last} {last' = last'} same same' low = omega (arith, same, same', low)

-- ---- an accepted step is no refusal and draws no stamp

pub collected_told : (P : Refusal → Type 0) (done : CollectReply) → IfRefused P (collect_reply done)
collected_told P collects.More = tt
collected_told P (collects.Blocked cell start) = tt
collected_told P collects.Collected = tt

pub collected_undamaged : (done : CollectReply) → collect_reply done ≡ Refused Damaged → ⊥
collected_undamaged collects.More = λ e. cc
collected_undamaged (collects.Blocked cell start) = λ e. cc
collected_undamaged collects.Collected = λ e. cc

pub collected_stays : (done : CollectReply) (last : ℕ) → StampsGoOn (collect_reply done) last last
collected_stays collects.More last = refl
collected_stays (collects.Blocked cell start) last = refl
collected_stays collects.Collected last = refl

pub begun_undamaged : (number floor : ℕ) → Collecting number floor ≡ Refused Damaged → ⊥
begun_undamaged number floor e = cc

-- ---- the refusals of a number of visits

pub never_bad : {A : Type 0} (done : A) (a b : Refusal) → IsErrOf (Ok done) a ⊎ IsErrOf (Ok done) b → ⊥
never_bad done a b (inl is) = ok_not done a is
never_bad done a b (inr is) = ok_not done b is

pub bad_told : {A : Type 0} (result : Result A Refusal) (refusal : Refusal) {a b : Refusal} → result ≡ Err refusal → IsErrOf result a ⊎ IsErrOf result b
    → (codec.Refused refusal ≡ codec.Refused a) ⊎ (codec.Refused refusal ≡ codec.Refused b)
bad_told result refusal {a = a} {b = b} is (inl err) = inl (as_refused result refusal a is err)
bad_told result refusal {a = a} {b = b} is (inr err) = inr (as_refused result refusal b is err)

-- ---- the cells of unchanged rows

pub same_cells : {F : Type 0} (contents : F → Option Contents) (old new : ClusterState F) → new ≡ old
    → cells_in (contents new.files) new.tablets ≡ cells_in (contents old.files) old.tablets
same_cells contents old new same = ap (λ (cluster : ClusterState _). cells_in (contents cluster.files) cluster.tablets) same
