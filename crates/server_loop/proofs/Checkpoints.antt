-- A flush of every tablet, and then a put of the root, are a checkpoint.
use Rattle.std.proofs.Common.{◌≡◌, ◌∙◌, ℕ, Result, Ok, Err, OnErr, OnOk, ap, refl, subst, sym}
use Rattle.cell_key.specs.declared.refusals.Refusal.{Refusal}
use Rattle.file_store.specs.declared.files.Files.{Ghosts as Files}
use Rattle.oracle.specs.declared.marks.MarkStore.{Ghosts as MarkStore}
use Rattle.request_codec.specs.declared.requests.Request.TheVariants.{Checkpoint}
use Rattle.si_model.specs.Machine.{refuses}
use Rattle.row_atomic.specs.Clusters.{ClusterState}
use Rattle.row_atomic.specs.Commands.{TellsFaults, done_of}
use Rattle.row_atomic.specs.Flushes.{KeepsShown}
use Rattle.row_atomic.specs.Recorded.{KeepsFollowing}
use Rattle.row_atomic.specs.Roots.{AreFlushed, PutsRoot, PutsRootOrNone, Rests, RootIsStored, RootOutlastsFlushes}
use Rattle.row_atomic.specs.declared.commands.Outcome.TheVariants as outcome
use Rattle.row_atomic.proofs.Checkpoints.{IsCheckpoint, put_checkpoints}
use Rattle.server_loop.specs.Answer.{IsPlainAnswer}
use Rattle.server_loop.specs.Checkpoints.{ActsAsCheckpoint, FlushesAll}
use Rattle.server_loop.specs.Commands.{checkpointed}
use Rattle.server_loop.specs.Server.{cluster_of, floor_of, forgets, rows_of, top_of}
use Rattle.server_loop.specs.declared.server.Server.{Server}
use Rattle.server_loop.proofs.Causes.{done_causes, refused_causes}
use Rattle.server_loop.proofs.SessionSteps.{name_undamaged, not_done}
use Rattle.server_loop.proofs.UpkeepSteps.{checkpoint_done, checkpoint_refuses, checkpoint_whole, flush_stores, still_shown, tells_as}

-- the same server over another cluster
abbrev with_cluster : {F M W : Type 0} → Server F M W → ClusterState F → Server F M W
with_cluster server cluster = record server { rows = record (rows_of server) { cluster = cluster } }

module _ {F M W : Type 0} (files : Files F W) (marks : MarkStore M) (old : Server F M W) (cluster : ClusterState F) where
  plain_here : (result : Result (Unit {0}) Refusal) → IsCheckpoint files (top_of old) (floor_of old) (cluster_of old) result cluster → IsPlainAnswer files marks old Checkpoint (checkpointed result) (forgets (with_cluster old cluster))
  plain_here (Ok done) o = record {
    step = record { step = tells_as _ _ _ o.keeps.kept (λ held follows. tt) refl refl refl refl _ _ o.keeps.spots (λ st shown. checkpoint_done st) (λ held. checkpoint_whole); refusal = tt; limits = tt };
    stamps = record { last = refl; restarted = tt; exhausted = λ _. tt };
    edits = record { changes = λ held. (o.keeps.kept held).1; room = tt };
    sessions = record { told = λ st shown. tt; sessions = record { top = refl; buffered = refl; limit = refl; each = λ t. refl }; cleaners = record { next = refl; each = λ i. refl; count = refl }; collectors = record { next = refl; floor = refl; each = λ i. refl; count = refl }; oracle = refl };
    tablets = (o.steps, (λ is. o.rests), λ replaces refusal is. absurd (not_done _ _ tt is));
    causes = (done_causes files.contents files.faults marks.faults _ _ _ _ _ refl (λ is. absurd (not_done _ _ tt is)) (λ is. cc) o.faults (λ _. tt) (λ _. tt));
    tending = refl;
    logged = tt;
  }
  plain_here (Err refusal) o = record {
    step = record {
      step = tells_as _ _ _ o.keeps.kept (λ held follows. tt) refl refl refl refl _ _ o.keeps.spots (λ st shown. refuses (checkpoint_refuses st _ o.refusal)) (λ held. name_undamaged _ (λ is. o.undamaged held (ap (λ (e : Refusal). Err e) is)));
      refusal = o.refusal;
      limits = tt;
    };
    stamps = record { last = refl; restarted = tt; exhausted = λ _. tt };
    edits = record { changes = λ held. (o.keeps.kept held).1; room = tt };
    sessions = record { told = λ st shown. tt; sessions = record { top = refl; buffered = refl; limit = refl; each = λ t. refl }; cleaners = record { next = refl; each = λ i. refl; count = refl }; collectors = record { next = refl; floor = refl; each = λ i. refl; count = refl }; oracle = refl };
    tablets = (o.steps, (λ is. absurd (not_done _ _ tt (sym is))), λ replaces refusal is. o.whole replaces);
    causes = (refused_causes files.contents files.faults marks.faults _ _ _ _ refl o.faults (λ _. tt) (λ _. tt));
    tending = refl;
    logged = tt;
  }

  acts_here : KeepsFollowing files.contents files.faults → (result : Result (Unit {0}) Refusal) → IsCheckpoint files (top_of old) (floor_of old) (cluster_of old) result cluster → ActsAsCheckpoint files marks old result (with_cluster old cluster)
  acts_here laws (Ok done) o = record {
    plain = plain_here (Ok done) o;
    shown = λ st shown. still_shown _ _ _ o.keeps.kept (λ held follows. tt) refl refl refl refl st o.keeps.spots shown;
    refusal = tt;
    spots = o.keeps.spots;
    clean = λ held. laws.rests _ _ _ _ o.rests o.keeps held;
    follows = λ replaces held follows. laws.checkpoints _ _ _ _ _ o.rests o.keeps held follows;
    journal = refl;
  }
  acts_here laws (Err refusal) o = record {
    plain = plain_here (Err refusal) o;
    shown = λ st shown. still_shown _ _ _ o.keeps.kept (λ held follows. tt) refl refl refl refl st o.keeps.spots shown;
    refusal = flush_stores refusal o.refusal;
    spots = o.keeps.spots;
    clean = tt;
    follows = λ replaces held follows. laws.refused _ _ _ _ _ (o.whole replaces) o.keeps held follows;
    journal = refl;
  }

module _ {F M W : Type 0} (files : Files F W) (marks : MarkStore M) (laws : KeepsFollowing files.contents files.faults) where
  -- a checkpoint of the cluster is one of the server
  pub acts_as : (old new : Server F M W) (top floor : ℕ) → top ≡ top_of old → floor ≡ floor_of old → new ≡ with_cluster old (cluster_of new) → (result : Result (Unit {0}) Refusal) → IsCheckpoint files top floor (cluster_of old) result (cluster_of new) → ActsAsCheckpoint files marks old result new
  acts_as old new top floor is_top is_floor others result o =
      let here : IsCheckpoint files (top_of old) (floor_of old) (cluster_of old) result (cluster_of new) = subst (λ (t : ℕ). IsCheckpoint files t (floor_of old) (cluster_of old) result (cluster_of new)) is_top (subst (λ (f : ℕ). IsCheckpoint files top f (cluster_of old) result (cluster_of new)) is_floor o) in
      subst (λ (server : Server F M W). ActsAsCheckpoint files marks old result server) (sym others) (acts_here files marks old (cluster_of new) laws result here)

  -- a root that is put after all tablets were flushed
  pub put_acts : RootIsStored files.contents → RootOutlastsFlushes files.contents files.faults → (first mid : Server F M W) (cluster : ClusterState F) (top floor : ℕ) (result : Result (Unit {0}) Refusal) → top ≡ top_of mid → floor ≡ floor_of mid → FlushesAll files.contents files.faults first outcome.Done mid
      → PutsRoot files.contents top floor (cluster_of mid) (done_of result) cluster.files → cluster ≡ record (cluster_of mid) { files = cluster.files } → OnOk result (AreFlushed (cluster_of mid) → Rests files.contents top floor (cluster_of mid) cluster)
      → (files.replaces → OnErr result (PutsRootOrNone files.contents top floor (cluster_of mid) cluster)) → KeepsShown files.contents files.faults (cluster_of mid) cluster → TellsFaults files.faults (done_of result) (cluster_of mid) cluster → ActsAsCheckpoint files marks first result (with_cluster mid cluster)
  put_acts stored outlasts first mid cluster top floor result is_top is_floor flushed puts rest rests whole keeps faults =
      acts_as first (with_cluster mid cluster) top floor (is_top ∙ ap (λ (s : Server F M W). top_of s) flushed.others) (is_floor ∙ ap (λ (s : Server F M W). floor_of s) flushed.others) (ap (λ (s : Server F M W). with_cluster s cluster) flushed.others) result
      (put_checkpoints files stored outlasts top floor (cluster_of first) (cluster_of mid) cluster result flushed.flushes puts rest rests whole keeps faults)
