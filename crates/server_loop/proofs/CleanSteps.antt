-- A server's steps, from its cleaners' steps.
use Rattle.std.proofs.Common.{[], ◌≡◌, ◌≤◌, ℕ, List, map, ap, arith, refl}
use Rattle.file_store.specs.Store.{Contents}
use Rattle.row_atomic.specs.Recorded.{seen_recorded}
use Rattle.row_atomic.specs.Clusters.{Spot, cells_in, spot_of}
use Rattle.rows.specs.Storage.{Storage}
use Rattle.si_model.proofs.ByServers.{by_servers}
use Rattle.si_model.specs.Collection.{ChangesCells}
use Rattle.si_model.specs.Kinds.{OfCleaners, kind_of}
use Rattle.si_model.proofs.ChangedParts.{leaves_others}
use Rattle.si_model.specs.Machine.{State, Request, Reply, Refused, IsReached}
use Rattle.cell_key.specs.declared.refusals.Refusal.{Refusal}
use Rattle.cell_key.specs.declared.refusals.Refusal.TheVariants.{Damaged}
use Rattle.si_model.specs.Replies.{clean_reply, clean_start_reply}
use Rattle.si_model.specs.declared.replies.CleanReply.{CleanReply}
use Rattle.si_model.specs.declared.replies.CleanReply.TheVariants as cleans
use Rattle.si_model.specs.declared.replies.CleanStart.{CleanStart}
use Rattle.si_model.specs.declared.replies.CleanStart.TheVariants as starts
use Rattle.clean_up.specs.Shows as open_cleaners
use Rattle.std.specs.Prelude.{Option}
use Rattle.request_codec.specs.Replies.{HoldsWithinLimits}
use Rattle.server_loop.specs.declared.server.Server.{Server}
use Rattle.server_loop.specs.Server.{HoldsIn, Shows, server_cells}
use Rattle.server_loop.specs.Runs.{IfRefused, StampsGoOn, StepsAs}
use Rattle.server_loop.proofs.SamePlaces.{KeepsPlaces}
use Rattle.server_loop.proofs.OthersShown.{floor_stays, cleaners_not_collectors, cleaners_not_sessions, collectors_stay, not_kind, sessions_stay, top_stays}
use Rattle.server_loop.proofs.SplitSteps.{still_placed, still_next}

-- the spots of tablets, from the storage below the memtables
abbrev pub spots_in : Storage → List Spot
spots_in storage = map spot_of storage.places

-- the storage without the log's contents, and the log's contents
abbrev pub unlogged : Storage → Storage
unlogged storage = record storage { logged = [] }

abbrev pub logged_in : Storage → List ℕ
logged_in storage = storage.logged

-- ---- whole steps

module _ {F M W : Type 0} (contents : F → Option Contents) (old new : Server F M W) where
  -- a step of a cleaner, which leaves the tablets' places, the sessions and the collectors unchanged
  pub cleans_as : (request : Request) (reply : Reply) → KeepsPlaces request → kind_of request ≡ OfCleaners → new.clients ≡ old.clients → new.oracle.last ≡ old.oracle.last
      → new.collectors ≡ old.collectors → ((st : State) → IsReached st → Shows contents old st → ChangesCells (server_cells contents old) st (server_cells contents new))
      → (HoldsIn contents old → open_cleaners.Steps (cells_in (contents old.rows.cluster.files) old.rows.cluster.tablets) old.cleaners request reply (cells_in (contents new.rows.cluster.files) new.rows.cluster.tablets) new.cleaners)
      → (HoldsIn contents old → HoldsIn contents new) → (seen_recorded contents).storage new.rows ≡ (seen_recorded contents).storage old.rows
      → (HoldsIn contents old → open_cleaners.InEachShown (cells_in (contents old.rows.cluster.files) old.rows.cluster.tablets) old.cleaners (λ st. reply ≡ Refused Damaged → ⊥))
      → StepsAs (Shows contents) old new request reply
  cleans_as request reply keeps kind same_clients same_last same_collectors changes step still storage whole = λ before reached shown.
      let (next, taken, cells, cleaners) = step shown.in_order before (by_servers reached) shown.shows.store shown.cleaners in
      let other = not_kind kind cleaners_not_sessions in
      let after : Shows contents new next = record {
        in_order = still shown.in_order;
        shows = record {
          store = cells;
          sessions = sessions_stay before next request reply taken old.clients new.clients other same_clients shown.shows.sessions;
          top = no_higher ((leaves_others before next request reply taken).sessions other).top same_last shown.shows.top;
        };
        alone = (
          top_stays before next request reply taken old.clients new.clients other same_clients shown.alone.0,
          floor_stays before next request reply taken old.collectors new.collectors (not_kind kind cleaners_not_collectors) same_collectors shown.alone.1,
        );
        cleaners = cleaners;
        collectors = collectors_stay before next request reply taken _ _ old.collectors new.collectors reached shown.shows.store (not_kind kind cleaners_not_collectors) (changes before reached shown) same_collectors shown.collectors;
        places = still_placed before next request reply taken keeps old.rows.cluster.places new.rows.cluster.places (ap spots_in storage) shown.places;
        next = still_next before next request reply taken keeps shown.next;
      } in
      (next, taken, after, whole shown.in_order before (by_servers reached) shown.shows.store shown.cleaners)
    where
      no_higher : {top top' last last' : ℕ} → top' ≡ top → last' ≡ last → top ≤ last → top' ≤ last'
      no_higher {top = top} {top' = top'} {last = last} {last' = last'} same same' low = omega (arith, same, same', low)

-- ---- an accepted step is no refusal and draws no stamp

pub started_told : (P : Refusal → Type 0) (found : CleanStart) → IfRefused P (clean_start_reply found)
started_told P starts.NoLock = tt
started_told P (starts.Cleaner number start) = tt

pub started_limits : (found : CleanStart) → HoldsWithinLimits (clean_start_reply found)
started_limits starts.NoLock = tt
started_limits (starts.Cleaner number start) = tt

pub started_undamaged : (found : CleanStart) → clean_start_reply found ≡ Refused Damaged → ⊥
started_undamaged starts.NoLock = λ e. cc
started_undamaged (starts.Cleaner number start) = λ e. cc

pub started_stays : (found : CleanStart) (last : ℕ) → StampsGoOn (clean_start_reply found) last last
started_stays starts.NoLock last = refl
started_stays (starts.Cleaner number start) last = refl

pub cleaned_told : (P : Refusal → Type 0) (done : CleanReply) → IfRefused P (clean_reply done)
cleaned_told P cleans.Decided = tt
cleaned_told P (cleans.RolledForward commit) = tt
cleaned_told P cleans.RolledBack = tt
cleaned_told P cleans.Gone = tt

pub cleaned_limits : (done : CleanReply) → HoldsWithinLimits (clean_reply done)
cleaned_limits cleans.Decided = tt
cleaned_limits (cleans.RolledForward commit) = tt
cleaned_limits cleans.RolledBack = tt
cleaned_limits cleans.Gone = tt

pub cleaned_undamaged : (done : CleanReply) → clean_reply done ≡ Refused Damaged → ⊥
cleaned_undamaged cleans.Decided = λ e. cc
cleaned_undamaged (cleans.RolledForward commit) = λ e. cc
cleaned_undamaged cleans.RolledBack = λ e. cc
cleaned_undamaged cleans.Gone = λ e. cc

pub cleaned_stays : (done : CleanReply) (last : ℕ) → StampsGoOn (clean_reply done) last last
cleaned_stays cleans.Decided last = refl
cleaned_stays (cleans.RolledForward commit) last = refl
cleaned_stays cleans.RolledBack last = refl
cleaned_stays cleans.Gone last = refl
