-- A server shows the same after its upkeep, whether files were merged or not.
use Rattle.std.proofs.Common.{◌≡◌, inl, inr, true, false, ℕ, List, map, None, Option, Some, refl, arith, ap, sym, subst, ◌∙◌}
use Rattle.cell_key.specs.Cells.{Cells}
use Rattle.file_store.specs.Store.{Contents}
use Rattle.tablet.specs.declared.merge_policy.MergePolicy.{MergePolicy}
use Rattle.tablet.specs.declared.merge_policy.MergePolicy.TheVariants.{AtCount, Levels}
use Rattle.row_atomic.specs.Clusters.{ClusterState, Spot}
use Rattle.row_atomic.specs.Changes.{Holds}
use Rattle.row_atomic.specs.Flushes.{CompactsFull, KeepsShown}
use Rattle.row_atomic.specs.Journals.{JournalView}
use Rattle.row_atomic.specs.Recorded.{Follows, KeepsFollowing}
use Rattle.row_atomic.specs.declared.fill.FlushLimits.{FlushLimits}
use Rattle.si_model.specs.Machine.{State}
use Rattle.txn_client.specs.Shows as clients
use Rattle.txn_client.specs.declared.sessions.Clients.{Clients}
use Rattle.clean_up.specs.Shows.{ShowsCleaners}
use Rattle.clean_up.specs.declared.cleaners.Cleaners.{Cleaners}
use Rattle.version_collector.specs.Shows.{ShowsCollectors}
use Rattle.version_collector.specs.declared.collectors.Collectors.{Collectors}
use Rattle.server_loop.specs.Server.{Shows, server_cells, cluster_of, journal_of, last_of, machine_place}
use Rattle.server_loop.specs.Tending.{IsNoted, Merges}
use Rattle.server_loop.specs.declared.server.Server.{Server}
use Rattle.server_loop.specs.declared.server.Tending.{Tending}

pub still_shown : {F M W : Type 0} (contents : F → Option Contents) (faults : F → ℕ) (old new : Server F M W) (st : State) → KeepsShown contents faults (cluster_of old) (cluster_of new) → (Holds contents (cluster_of old) → Follows contents (cluster_of old) (journal_of old) → Follows contents (cluster_of new) (journal_of new))
    → new.clients ≡ old.clients → new.cleaners ≡ old.cleaners → new.collectors ≡ old.collectors → last_of new ≡ last_of old → Shows contents old st → Shows contents new st
still_shown contents faults old new st keeps follows sessions cleaners collectors last shown =
    let (held, cells) = keeps.kept shown.in_order.0 in
    record {
      in_order = (held, follows shown.in_order.0 shown.in_order.1);
      shows = subst (λ (c : Cells). clients.Shows c new.clients (last_of new) st) (sym cells)
          (subst (λ (s : Clients). clients.Shows (server_cells contents old) s (last_of new) st) (sym sessions)
          (subst (λ (l : ℕ). clients.Shows (server_cells contents old) old.clients l st) (sym last) shown.shows));
      alone = (rw sessions shown.alone.0, rw collectors shown.alone.1);
      cleaners = subst (λ (s : Cleaners). ShowsCleaners s st) (sym cleaners) shown.cleaners;
      collectors = subst (λ (c : Cells). ShowsCollectors c new.collectors st) (sym cells)
          (subst (λ (s : Collectors). ShowsCollectors (server_cells contents old) s st) (sym collectors) shown.collectors);
      places = ap (λ (spots : List Spot). map machine_place spots) keeps.spots ∙ shown.places;
      next = shown.next;
    }

-- ---- merges

-- nothing is noted where no merge was due
pub not_due : (next : ℕ) (tending : Tending) → IsNoted false next tending tending
not_due next tending = record { flush = refl; merge = refl; noted = λ other. refl }

-- a file's name is noted after a whole merge
pub all_merged : (next : ℕ) (tending : Tending) → IsNoted true next tending (record tending { merged_to = next })
all_merged next tending = record { flush = refl; merge = refl; noted = λ other. refl }

module _ {F : Type 0} (contents : F → Option Contents) (faults : F → ℕ) where
  pub keeps_same : (old : ClusterState F) → KeepsShown contents faults old old
  keeps_same old = record { kept = λ holds. (holds, refl); spots = refl; limit = refl; later = omega arith }

  pub keeps_both : (old mid new : ClusterState F) → KeepsShown contents faults old mid → KeepsShown contents faults mid new → KeepsShown contents faults old new
  keeps_both old mid new first then = record {
    kept = λ holds. let before = first.kept holds in let after = then.kept before.0 in (after.0, after.1 ∙ before.1);
    spots = then.spots ∙ first.spots;
    limit = then.limit ∙ first.limit;
    later = let a = first.later in let b = then.later in omega arith;
  }

  merges_follow : KeepsFollowing contents faults → (merge : Option MergePolicy) (journal : Option JournalView) (old new : ClusterState F) → Merges contents faults merge old new → KeepsShown contents faults old new → Holds contents old → Follows contents old journal → Follows contents new journal
  merges_follow law None journal old new is keeps holds follows = subst (λ (state : ClusterState F). Follows contents state journal) (sym is) follows
  merges_follow law (Some (AtCount count)) journal old new is keeps holds follows = law.merges (AtCount count) journal old new is keeps holds follows
  merges_follow law (Some Levels) journal old new (inl same) keeps holds follows = subst (λ (state : ClusterState F). Follows contents state journal) (sym same) follows
  merges_follow law (Some Levels) journal old new (inr step) keeps holds follows = law.roots journal old new step.2 keeps holds follows

  -- the journal follows the shown cells, after compactions and merges
  pub tends_follow : KeepsFollowing contents faults → (limits : FlushLimits) (merge : Option MergePolicy) (journal : Option JournalView) (old mid new : ClusterState F) → CompactsFull contents faults limits old mid → KeepsShown contents faults old mid → Merges contents faults merge mid new → KeepsShown contents faults mid new
      → Holds contents old → Follows contents old journal → Follows contents new journal
  tends_follow law limits merge journal old mid new compacts first merges then holds follows =
      merges_follow law merge journal mid new merges then (first.kept holds).0 (law.flushes limits journal old mid compacts first holds follows)
