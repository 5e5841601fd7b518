-- A collector begins: the floor rises, and all else stays.
use Rattle.std.proofs.Common.{◌≡◌, ◌<◌, ◌≤◌, ℕ, max, Option, Some, None, inl, inr, refl, sym, ap, subst, ◌∙◌}
use Rattle.std.specs.Ordering.{nat_cmp}
use Rattle.std.specs.BTreeMap as btree
use Rattle.std.specs.FinMap.{FinMap, get, len}
use Rattle.std.proofs.Math.Nat.{le-max_left, le-max_right, le_trans}
use Rattle.std.proofs.lemmas.Bool.{cases_eq, cases_lt}
use Rattle.cell_key.specs.Cells.{Cells}
use Rattle.cell_key.specs.Places.{Place}
use Rattle.cell_key.specs.declared.refusals.Refusal.TheVariants.{TooManySessions}
use Rattle.si_model.specs.Collection.{FirstPass, HasCome, Pass, SecondPass}
use Rattle.si_model.specs.Laws.{Goes}
use Rattle.si_model.specs.Machine.{State, Cleaner, CollectBegin, IsAcceptable, most_collectors, end_of_stamps}
use Rattle.si_model.specs.Refusing.{collect_full}
use Rattle.si_model.specs.Servers.{Own, IsBelowAll, IsPartOf, IsRightCleaner, raises, view}
use Rattle.si_model.specs.ShowsCells.{ShowsCells}
use Rattle.si_model.proofs.OpenNumbers.{added}
use Rattle.si_model.proofs.ShownKept.{shows_beside}
use Rattle.si_model.proofs.Tools.{each_insert}
use Rattle.txn_client.specs.Shows.{ShowsClients}
use Rattle.txn_client.specs.declared.sessions.Clients.{Clients}
use Rattle.txn_client.proofs.Table.{shows_along}
use Rattle.clean_up.specs.Shows as clean
use Rattle.clean_up.specs.Shows.{ShowsCleaners}
use Rattle.clean_up.specs.declared.cleaner.Cleaner.{Cleaner as Kept}
use Rattle.clean_up.specs.declared.cleaners.Cleaners.{Cleaners}
use Rattle.version_collector.specs.Shows as collect
use Rattle.version_collector.specs.Shows.{ShowsCollectors}
use Rattle.version_collector.specs.Visits.{pass_of, position_of}
use Rattle.version_collector.specs.declared.collector.Collector.{Collector}
use Rattle.version_collector.specs.declared.collectors.Collectors.{Collectors}
use Rattle.servers_model.specs.Servers.{Server, ShowsServer, ShowsServers, with_one}
use Rattle.servers_model.specs.Merged.{with_one_more}
use Rattle.servers_model.proofs.Turn.{at_own, at_other, each_one}

module _ (st : State) (floor : ℕ) where
  abbrev pub raised : State
  raised = record st { floor = max st.floor floor }

  raised_goes : Goes st raised
  raised_goes = record {
    wrote = λ u ws w late. w;
    marked = λ x u ws m w. w;
    late = λ u ws w late h. late h;
    cleared = λ n k. (le_trans k.0 (le-max_left st.floor floor), k.1);
  }

  raised_shown : (cells : Cells) → ShowsCells cells st → ShowsCells cells raised
  raised_shown cells shown = shows_beside cells st raised raised_goes shown (λ y u m. m) (λ y u m. m) refl

  raised_right : (k : Cleaner) → IsRightCleaner st k → IsRightCleaner raised k
  raised_right k right = let p = right.tried in record {
    tried = record { ws = p.ws; k = p.k; v = p.v; wrote = p.wrote; puts = p.puts; past = p.past };
    known = right.known;
    decided = right.decided;
  }

  raised_part : (own : Own) → IsPartOf own st → IsPartOf own raised
  raised_part own part = record {
    sessions = part.sessions;
    cleaners = λ n k h. raised_right k (part.cleaners n k h);
    collectors = λ n f h. le_trans (part.collectors n f h) (le-max_left st.floor floor);
    cleaner_numbers = part.cleaner_numbers;
    collector_numbers = part.collector_numbers;
  }

  one_more_part : (own : Own) → IsPartOf own st → IsAcceptable (view st own) CollectBegin → own.next_collector < end_of_stamps → IsPartOf (with_one_more own floor) raised
  one_more_part own part ok limit = record {
    sessions = part.sessions;
    cleaners = λ n k h. raised_right k (part.cleaners n k h);
    collectors = each_insert own.collectors own.next_collector (λ n f. f ≤ max st.floor floor) floor (le-max_right st.floor floor) (λ n f ne h. le_trans (part.collectors n f h) (le-max_left st.floor floor));
    cleaner_numbers = part.cleaner_numbers;
    collector_numbers = added own.collectors own.next_collector most_collectors part.collector_numbers floor room limit;
  }
    where
      room : len own.collectors < most_collectors
      room = elim (cases_lt (len own.collectors) most_collectors) [ inl few ↦ few | inr full ↦ absurd (ok TooManySessions (collect_full full)) ]

  -- the same sessions and cleaners, with any collectors
  module _ (own : Own) (collectors : FinMap nat_cmp ℕ) (next : ℕ) where
    abbrev now : State
    now = view raised (record own { collectors = collectors; next_collector = next })

    raised_sessions : (clients : Clients) → ShowsClients clients (view st own) → ShowsClients clients now
    raised_sessions clients shown = shows_along clients (view st own) now shown refl refl refl

    raised_kept : (o : Option Kept) (n : ℕ) → clean.ShowsAt o n (view st own) → clean.ShowsAt o n now
    raised_kept None n none = none
    raised_kept (Some k) n shown = record { kept = shown.kept; knows = record { is_first = shown.knows.is_first; right = shown.knows.right } }

    raised_cleaners : (cleaners : Cleaners) → ShowsCleaners cleaners (view st own) → ShowsCleaners cleaners now
    raised_cleaners cleaners shown = record {
      next = shown.next;
      each = λ n. raised_kept (btree.get nat_cmp cleaners.cleaners n) n (shown.each n);
      count = shown.count;
    }

  module _ (cells : Cells) (own : Own) where
    raised_come : (f : ℕ) (pass : Pass) (after : Option Place) → HasCome cells (view st own) f pass after → HasCome cells (view raised own) f pass after
    raised_come f FirstPass after come = come
    raised_come f SecondPass after come = come

    raised_collector : (o : Option Collector) (n : ℕ) → collect.ShowsAt cells o n (view st own) → collect.ShowsAt cells o n (view raised own)
    raised_collector None n none = none
    raised_collector (Some c) n shown = record { kept = shown.kept; come = (raised_come c.floor (pass_of c.pass) (position_of c.after) shown.come.0, shown.come.1) }

    raised_collectors : (collectors : Collectors) → ShowsCollectors cells collectors (view st own) → ShowsCollectors cells collectors (view raised own)
    raised_collectors collectors shown = record {
      next = shown.next;
      floor = le_trans shown.floor (le-max_left st.floor floor);
      each = λ n. raised_collector (btree.get nat_cmp collectors.collectors n) n (shown.each n);
      count = shown.count;
    }

    pub raised_server : (server : Server) → ShowsServer cells server (view st own) → ShowsServer cells server (view raised own)
    raised_server server shown = record {
      sessions = raised_sessions own own.collectors own.next_collector server.clients shown.sessions;
      cleaners = raised_cleaners own own.collectors own.next_collector server.cleaners shown.cleaners;
      collectors = raised_collectors server.collectors shown.collectors;
    }

module _ (cells : Cells) (servers : ℕ → Server) (floors : ℕ → ℕ) (last : ℕ) (st : State) (owns : ℕ → Own) (i floor : ℕ) (collectors' : Collectors) (shows : ShowsServers cells servers floors last st owns) (below : IsBelowAll st floor)
    (ok : IsAcceptable (view st (owns i)) CollectBegin) (limit : (owns i).next_collector < end_of_stamps)
    (shown : ShowsCollectors cells collectors' (view (raised st floor) (with_one_more (owns i) floor))) where
  abbrev own_more : Own
  own_more = with_one_more (owns i) floor

  abbrev server_more : Server
  server_more = record (servers i) { collectors = collectors' }

  same_sessions : (j : ℕ) → (with_one owns i own_more j).sessions ≡ (owns j).sessions
  same_sessions j = elim (cases_eq j i) [
    | inl e ↦ ap (λ (o : Own). o.sessions) (at_own owns i own_more j e) ∙ ap (λ (n : ℕ). (owns n).sessions) (sym e)
    | inr ne ↦ ap (λ (o : Own). o.sessions) (at_other owns i own_more j ne)
  ]

  more_shown : ShowsServer cells server_more (view (raised st floor) own_more)
  more_shown = record {
    sessions = raised_sessions st floor (owns i) own_more.collectors own_more.next_collector (servers i).clients (shows.each i).sessions;
    cleaners = raised_cleaners st floor (owns i) own_more.collectors own_more.next_collector (servers i).cleaners (shows.each i).cleaners;
    collectors = shown;
  }

  pub shows_collecting : ShowsServers cells (with_one servers i server_more) floors last (raised st floor) (with_one owns i own_more)
  shows_collecting = record {
    reached = raises shows.reached below;
    store = raised_shown st floor cells shows.store;
    top = shows.top;
    parts = each_one owns i own_more (λ j o. IsPartOf o (raised st floor)) (one_more_part st floor (owns i) (shows.parts i) ok limit) (λ j ne. raised_part st floor (owns j) (shows.parts j));
    apart = λ j l ne t p h. ap (λ m. get m t) (same_sessions l) ∙ shows.apart j l ne t p (sym (ap (λ m. get m t) (same_sessions j)) ∙ h);
    whose = λ t p h. let (j, g) = shows.whose t p h in (j, ap (λ m. get m t) (same_sessions j) ∙ g);
    published = λ j. let b = shows.published j in (b.0, λ t p h. b.1 t p (sym (ap (λ m. get m t) (same_sessions j)) ∙ h));
    each = λ j. elim (cases_eq j i) [
      | inl e ↦ subst (λ (o : Own). ShowsServer cells (with_one servers i server_more j) (view (raised st floor) o)) (sym (at_own owns i own_more j e))
          (subst (λ (s : Server). ShowsServer cells s (view (raised st floor) own_more)) (sym (at_own servers i server_more j e)) more_shown)
      | inr ne ↦ subst (λ (o : Own). ShowsServer cells (with_one servers i server_more j) (view (raised st floor) o)) (sym (at_other owns i own_more j ne))
          (subst (λ (s : Server). ShowsServer cells s (view (raised st floor) (owns j))) (sym (at_other servers i server_more j ne)) (raised_server st floor cells (owns j) (servers j) (shows.each j)))
    ];
  }
