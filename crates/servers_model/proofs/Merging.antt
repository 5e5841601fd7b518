-- The merged requests of several servers are a run of the machine.
use Rattle.std.proofs.Common.{◌≡◌, ◌≢◌, ◌<◌, ◌≤◌, ℕ, cond, ◌∷◌, Option, Some, None, inl, inr, refl, sym, ap, subst, ◌∙◌, arith}
use Rattle.std.specs.Prelude.{Ok, Err, is_some, not}
use Rattle.std.specs.Ordering.{nat_cmp}
use Rattle.std.specs.FinMap.{empty, get, get-empty, get-retain_keys, nat_cmp-IsAntisymmetric}
use Rattle.std.proofs.Math.Nat.{le_trans}
use Rattle.std.proofs.lemmas.Bool.{cases_eq}
use Rattle.std.proofs.lemmas.Option.{none-some}
use Rattle.cell_key.specs.Cells.{Cells}
use Rattle.si_model.specs.Kinds.{Kind, kind_of, OfSessions, OfCleaners, OfCollectors}
use Rattle.si_model.specs.Machine.{State, Cleaner, Phase, Request, Reply, CollectBegin, Collecting, Refused, new_machine, end_of_stamps}
use Rattle.si_model.specs.Collection.{erases_versions, unchanged}
use Rattle.si_model.specs.Servers.{Own, Sessions, IsBelowAll, IsPartOf, IsRightCleaner, starts_new, sees, seen_with, view}
use Rattle.si_model.specs.ShowsCells.{ShowsCells}
use Rattle.si_model.proofs.ByServers.{nothing_is_part}
use Rattle.si_model.proofs.ChangedParts.{leaves_others}
use Rattle.si_model.proofs.Parts.{own_is_part, own_of, servers_lawful, views_shown}
use Rattle.txn_client.proofs.Table.{shows_along}
use Rattle.clean_up.proofs.Table.{shows_on}
use Rattle.version_collector.proofs.Table.{shows_on as collected_on}
use Rattle.servers_model.specs.Servers.{Server, ShowsServer, ShowsServers, AreApart, IsNew, nothing, with_one, without}
use Rattle.servers_model.specs.Serves.{MayPublish, Serves, of_session, of_cleaner, of_collector}
use Rattle.servers_model.specs.Merged.{Answers, with_one_more, TakesTurns, rests, turns, collects, begins_again, AllBegin, MergedRuns, MergedFromNew}
use Rattle.servers_model.specs.Merged.{ends, answers, begins_collector, publishes, begins_again as server_begins}
use Rattle.servers_model.proofs.Raised.{raised, shows_collecting}
use Rattle.servers_model.proofs.Turn.{Turned, refused, turned, seen_reached, seen_shown, at_own, at_other, each_one}

-- ---- one request

not_sessions : OfSessions ≢ OfCollectors
not_sessions is = cc

not_cleaners : OfCleaners ≢ OfCollectors
not_cleaners is = cc

sessions_apart : OfSessions ≢ OfCleaners
sessions_apart is = cc

cleaners_apart : OfCleaners ≢ OfSessions
cleaners_apart is = cc

not_begin : {kind : Kind} {q : Request} → kind_of q ≡ kind → kind ≢ OfCollectors → q ≢ CollectBegin
not_begin of ne is = ne (sym of ∙ ap kind_of is)

served : (cells cells' : Cells) (servers : ℕ → Server) (floors : ℕ → ℕ) (i last last' : ℕ) (st : State) (owns : ℕ → Own) (shows : ShowsServers cells servers floors last st owns)
    (q : Request) (r : Reply) (server' : Server) → Serves cells (servers i) last q r cells' server' last' → Turned cells cells' servers i server' floors last last' st owns shows q r
served cells cells' servers floors i last last' st owns shows q r _ (of_session {clients' = clients'} s) =
    let server : Server = record (servers i) { clients = clients' } in
    let reached = seen_reached cells cells' servers i server floors last last' st owns shows in
    let shown = seen_shown cells cells' servers i server floors last last' st owns shows in
    let (next, step, after, known) = s.steps (view st (owns i)) reached (record { store = shown; sessions = (shows.each i).sessions; top = shows.top }) in
    let changes = s.changed (view st (owns i)) reached shown (shows.each i).sessions in
    turned cells cells' servers i server floors last last' st owns shows q r next (not_begin s.kind not_sessions) step changes after.store
    (record {
      sessions = after.sessions;
      cleaners = shows_on (servers i).cleaners (view st (owns i)) next q r reached step (λ of. sessions_apart (sym s.kind ∙ of)) (shows.each i).cleaners;
      collectors = collected_on cells cells' (servers i).collectors (view st (owns i)) next q r reached shown step (λ of. not_sessions (sym s.kind ∙ of)) changes (shows.each i).collectors;
    })
    after.top
served cells cells' servers floors i last _ st owns shows q r _ (of_cleaner {cleaners' = cleaners'} s) =
    let server : Server = record (servers i) { cleaners = cleaners' } in
    let reached = seen_reached cells cells' servers i server floors last last st owns shows in
    let shown = seen_shown cells cells' servers i server floors last last st owns shows in
    let (next, step, store, after) = s.steps (view st (owns i)) reached shown (shows.each i).cleaners in
    let left = (leaves_others (view st (owns i)) next q r step).sessions (λ of. cleaners_apart (sym s.kind ∙ of)) in
    let changes = s.changed (view st (owns i)) reached shown (shows.each i).cleaners in
    turned cells cells' servers i server floors last last st owns shows q r next (not_begin s.kind not_cleaners) step changes store
    (record {
      sessions = shows_along (servers i).clients (view st (owns i)) next (shows.each i).sessions left.top left.begun left.active;
      cleaners = after;
      collectors = collected_on cells cells' (servers i).collectors (view st (owns i)) next q r reached shown step (λ of. not_cleaners (sym s.kind ∙ of)) changes (shows.each i).collectors;
    })
    (subst (λ (n : ℕ). n ≤ last) (sym left.top) shows.top)
served cells cells' servers floors i last _ st owns shows q r _ (of_collector {collectors' = collectors'} s) =
    let server : Server = record (servers i) { collectors = collectors' } in
    let reached = seen_reached cells cells' servers i server floors last last st owns shows in
    let shown = seen_shown cells cells' servers i server floors last last st owns shows in
    let (next, step, store, after, known) = s.steps (view st (owns i)) reached shown (shows.each i).collectors in
    let left = (leaves_others (view st (owns i)) next q r step).sessions (λ of. not_sessions (sym of ∙ s.kind)) in
    turned cells cells' servers i server floors last last st owns shows q r next s.has_begun step (erases_versions cells' (s.collects (view st (owns i)) reached shown (shows.each i).collectors)) store
    (record {
      sessions = shows_along (servers i).clients (view st (owns i)) next (shows.each i).sessions left.top left.begun left.active;
      cleaners = shows_on (servers i).cleaners (view st (owns i)) next q r reached step (λ of. not_cleaners (sym of ∙ s.kind)) (shows.each i).cleaners;
      collectors = after;
    })
    (subst (λ (n : ℕ). n ≤ last) (sym left.top) shows.top)

-- ---- servers that begin

no_session : (t : ℕ) (p : Phase) → get (empty {X = Phase} {R = nat_cmp}) t ≡ Some p → ⊥
no_session t p h = none-some p (sym (get-empty nat_cmp t) ∙ h)

pub all_begin : AllBegin
all_begin cells servers last st reached store top new = record {
  reached = sees reached (nothing_is_part st);
  store = views_shown cells st nothing (nothing_is_part st) store;
  top = top;
  parts = λ i. nothing_is_part (view st nothing);
  apart = λ i j ne t p h. absurd (no_session t p h);
  whose = λ t p h. absurd (no_session t p h);
  published = λ i. (omega arith, λ t p h. absurd (no_session t p h));
  each = λ i. new i cells (view st nothing) refl refl refl refl refl;
}

module _ (all mine : Sessions) where
  at_without : (t : ℕ) → get (without all mine) t ≡ cond (not (is_some (get mine t))) (get all t) None
  at_without t = get-retain_keys all (λ t. not (is_some (get mine t))) t (λ u e. ap (λ n. not (is_some (get mine n))) (sym (nat_cmp-IsAntisymmetric t u e)))

  -- what is left is another's
  left_without : (t : ℕ) (p : Phase) → get (without all mine) t ≡ Some p → (get mine t ≡ None) × (get all t ≡ Some p)
  left_without t p h = by (get mine t) refl (sym (at_without t) ∙ h)
    where
      by : (o : Option Phase) → get mine t ≡ o → cond (not (is_some (get mine t))) (get all t) None ≡ Some p → (get mine t ≡ None) × (get all t ≡ Some p)
      by None e g = (e, subst (λ (o : Option Phase). cond (not (is_some o)) (get all t) None ≡ Some p) e g)
      by (Some q) e g = absurd (none-some p (subst (λ (o : Option Phase). cond (not (is_some o)) (get all t) None ≡ Some p) e g))

  stays_without : (t : ℕ) (p : Phase) → get mine t ≡ None → get all t ≡ Some p → get (without all mine) t ≡ Some p
  stays_without t p none h = at_without t ∙ (ap (λ (o : Option Phase). cond (not (is_some o)) (get all t) None) none ∙ h)

module _ (cells : Cells) (servers : ℕ → Server) (floors : ℕ → ℕ) (last : ℕ) (st : State) (owns : ℕ → Own) (i : ℕ) (server : Server) (new : IsNew server) (shows : ShowsServers cells servers floors last st owns) where
  abbrev mine : Sessions
  mine = (owns i).sessions

  abbrev left : Own
  left = record (own_of st) { sessions = without st.active mine }

  abbrev rest : State
  rest = seen_with st (without st.active mine)

  left_part : IsPartOf left st
  left_part = let p = own_is_part st shows.reached in record {
    sessions = λ t p h. (left_without st.active mine t p h).1;
    cleaners = p.cleaners;
    collectors = p.collectors;
    cleaner_numbers = p.cleaner_numbers;
    collector_numbers = p.collector_numbers;
  }

  right_in_rest : (k : Cleaner) → IsRightCleaner st k → IsRightCleaner rest k
  right_in_rest k right = let p = right.tried in record {
    tried = record { ws = p.ws; k = p.k; v = p.v; wrote = p.wrote; puts = p.puts; past = λ q h. p.past q (left_without st.active mine k.start q h).1 };
    known = right.known;
    decided = right.decided;
  }

  other_part : (j : ℕ) → j ≢ i → IsPartOf (owns j) rest
  other_part j ne = let p = shows.parts j in record {
    sessions = λ t q h. stays_without st.active mine t q (shows.apart j i ne t q h) (p.sessions t q h);
    cleaners = λ n k h. right_in_rest k (p.cleaners n k h);
    collectors = p.collectors;
    cleaner_numbers = p.cleaner_numbers;
    collector_numbers = p.collector_numbers;
  }

  one_begins : ShowsServers cells (with_one servers i server) floors last rest (with_one owns i nothing)
  one_begins = record {
    reached = sees shows.reached left_part;
    store = views_shown cells st left left_part shows.store;
    top = shows.top;
    parts = each_one owns i nothing (λ j o. IsPartOf o rest) (nothing_is_part rest) other_part;
    apart = λ j l ne. elim (cases_eq j i) [
      | inl e ↦ subst (λ (o : Own). AreApart o.sessions (with_one owns i nothing l).sessions) (sym (at_own owns i nothing j e)) (λ t p h. absurd (no_session t p h))
      | inr off ↦ subst (λ (o : Own). AreApart o.sessions (with_one owns i nothing l).sessions) (sym (at_other owns i nothing j off)) (elim (cases_eq l i) [
        | inl f ↦ subst (λ (o : Own). AreApart (owns j).sessions o.sessions) (sym (at_own owns i nothing l f)) (λ t p h. get-empty nat_cmp t)
        | inr far ↦ subst (λ (o : Own). AreApart (owns j).sessions o.sessions) (sym (at_other owns i nothing l far)) (shows.apart j l ne)
      ])
    ];
    whose = λ t p h. let (none, was) = left_without st.active mine t p h in let (j, g) = shows.whose t p was in elim (cases_eq j i) [
      | inl e ↦ absurd (none-some p (sym none ∙ subst (λ (n : ℕ). get (owns n).sessions t ≡ Some p) e g))
      | inr ne ↦ (j, subst (λ (o : Own). get o.sessions t ≡ Some p) (sym (at_other owns i nothing j ne)) g)
    ];
    published = each_one owns i nothing (λ j o. IsBelowAll (view rest o) (floors j)) ((shows.published i).0, λ t p h. absurd (no_session t p h)) (λ j ne. shows.published j);
    each = λ j. elim (cases_eq j i) [
      | inl e ↦ subst (λ (o : Own). ShowsServer cells (with_one servers i server j) (view rest o)) (sym (at_own owns i nothing j e))
          (subst (λ (s : Server). ShowsServer cells s (view rest nothing)) (sym (at_own servers i server j e)) (new cells (view rest nothing) refl refl refl refl refl))
      | inr off ↦ subst (λ (o : Own). ShowsServer cells (with_one servers i server j) (view rest o)) (sym (at_other owns i nothing j off))
          (subst (λ (s : Server). ShowsServer cells s (view st (owns j))) (sym (at_other servers i server j off)) (shows.each j))
    ];
  }

-- ---- a collector that begins

-- what isn't above a published floor isn't above any session
below_all : (cells : Cells) (servers : ℕ → Server) (floors : ℕ → ℕ) (last : ℕ) (st : State) (owns : ℕ → Own) (floor : ℕ) → ShowsServers cells servers floors last st owns → ((j : ℕ) → floor ≤ floors j) → IsBelowAll st floor
below_all cells servers floors last st owns floor shows below = (
  le_trans (below 0) (shows.published 0).0,
  λ t p h. let (j, g) = shows.whose t p h in le_trans (below j) ((shows.published j).1 t p g),
)

publishes_shown : (cells : Cells) (servers : ℕ → Server) (floors : ℕ → ℕ) (last : ℕ) (st : State) (owns : ℕ → Own) (i floor : ℕ) → MayPublish (servers i).clients floor → ShowsServers cells servers floors last st owns
    → ShowsServers cells servers (with_one floors i floor) last st owns
publishes_shown cells servers floors last st owns i floor may shows = record {
  reached = shows.reached;
  store = shows.store;
  top = shows.top;
  parts = shows.parts;
  apart = shows.apart;
  whose = shows.whose;
  published = each_one floors i floor (λ j f. IsBelowAll (view st (owns j)) f) (may (view st (owns i)) (sees shows.reached (shows.parts i)) (shows.each i).sessions) (λ j ne. shows.published j);
  each = shows.each;
}

-- ---- all requests

later_shown : (cells : Cells) (servers : ℕ → Server) (floors : ℕ → ℕ) (last now : ℕ) (st : State) (owns : ℕ → Own) → last ≤ now → ShowsServers cells servers floors last st owns → ShowsServers cells servers floors now st owns
later_shown cells servers floors last now st owns low shows = record {
  reached = shows.reached;
  store = shows.store;
  top = (let top = shows.top in omega arith);
  parts = shows.parts;
  apart = shows.apart;
  whose = shows.whose;
  published = shows.published;
  each = shows.each;
}

pub merged_runs : MergedRuns
merged_runs cells cells' servers servers' floors floors' last last' events st owns shows ends = (st, owns, rests, shows, servers_lawful st shows.reached)
merged_runs cells cells' servers servers' floors floors' last last' events st owns shows (answers {mid = mid} {now = now} {next = next} {q = q} {r = r} {server = server} {events = later} i low serves more) =
    let at : ShowsServers cells servers floors now st owns = later_shown cells servers floors last now st owns low shows in
    let s : Turned cells mid servers i server floors now next st owns at q r = served cells mid servers floors i now next st owns at q r server serves in
    let (end, ends_with, run, shown, laws) = merged_runs mid cells' (with_one servers i server) servers' floors floors' next last' later s.next s.owns_next s.shown more in
    (end, ends_with, turns s.turn_taken run, shown, laws)
merged_runs cells cells' servers servers' floors floors' last last' events st owns shows (begins_collector {events = later} i collectors floor (Ok number) below begins more) =
    let low = below_all cells servers floors last st owns floor shows below in
    let (ok, same, limit, store, shown) = begins cells (view st (owns i)) (sees shows.reached (shows.parts i)) (views_shown cells st (owns i) (shows.parts i) shows.store) (shows.each i).collectors in
    let (end, ends_with, run, shown_end, laws) = merged_runs cells cells' (with_one servers i (record (servers i) { collectors = collectors })) servers' floors floors' last last' later (raised st floor) (with_one owns i (with_one_more (owns i) floor))
    (shows_collecting cells servers floors last st owns i floor collectors shows low ok (subst (λ (n : ℕ). n < end_of_stamps) same limit) shown) more in
    (end, ends_with, subst (λ (n : ℕ). TakesTurns st owns (Answers i CollectBegin (Collecting n floor) ∷ later) end ends_with) (sym same) (collects ok low run), shown_end, laws)
merged_runs cells cells' servers servers' floors floors' last last' events st owns shows (begins_collector {events = later} i collectors floor (Err e) below begins more) =
    let server : Server = record (servers i) { collectors = collectors } in
    let store = views_shown cells st (owns i) (shows.parts i) shows.store in
    let (why, shown) = begins cells (view st (owns i)) (sees shows.reached (shows.parts i)) store (shows.each i).collectors in
    let s : Turned cells cells servers i server floors last last st owns shows CollectBegin (Refused e) = refused cells cells servers i server floors last last st owns shows CollectBegin e why unchanged store
    (record { sessions = (shows.each i).sessions; cleaners = (shows.each i).cleaners; collectors = shown }) shows.top in
    let (end, ends_with, run, shown_end, laws) = merged_runs cells cells' (with_one servers i server) servers' floors floors' last last' later s.next s.owns_next s.shown more in
    (end, ends_with, turns s.turn_taken run, shown_end, laws)
merged_runs cells cells' servers servers' floors floors' last last' events st owns shows (publishes i floor may more) =
    merged_runs cells cells' servers servers' (with_one floors i floor) floors' last last' events st owns (publishes_shown cells servers floors last st owns i floor may shows) more
merged_runs cells cells' servers servers' floors floors' last last' events st owns shows (server_begins {server = server} {events = later} i new more) =
    let (end, ends_with, run, shown, laws) = merged_runs cells cells' (with_one servers i server) servers' floors floors' last last' later (seen_with st (without st.active (owns i).sessions)) (with_one owns i nothing)
    (one_begins cells servers floors last st owns i server new shows) more in
    (end, ends_with, begins_again i run, shown, laws)

-- ---- from an empty store

nothing_shown : ShowsCells empty new_machine
nothing_shown = record {
  marks = λ x t m. elim m [ ];
  locks = λ x t b h. absurd (none-some b (sym (get-empty _ _) ∙ h));
  records = λ x c b h. absurd (none-some b (sym (get-empty _ _) ∙ h));
  commits = λ a m. elim m [ ];
  given = λ x t b h. absurd (none-some b (sym (get-empty _ _) ∙ h));
}

pub merged_from_new : MergedFromNew
merged_from_new cells' servers servers' floors' last' events new merged =
    merged_runs empty cells' servers servers' (λ _. 0) floors' 0 last' events new_machine (λ _. nothing) (all_begin empty servers 0 new_machine starts_new nothing_shown (omega arith) new) merged
