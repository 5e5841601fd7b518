-- The state that a checkpoint keeps, and the faults that it answers.
use Rattle.std.proofs.Common.{◌≡◌, ◌≢◌, ◌≤◌, ◌⊎◌, inl, inr, OnErr, OnOk, ℕ, List, [], ◌∷◌, Option, Result, Ok, Err, IfErr, IsErrOf, refl, sym, ap, ◌∙◌, subst, arith}
use Rattle.std.specs.Result.{IsErrAnd}
use Rattle.cell_key.specs.Faults.{HasRisen}
use Rattle.cell_key.specs.declared.refusals.Refusal.{Refusal}
use Rattle.cell_key.specs.declared.refusals.Refusal.TheVariants as refused
use Rattle.file_store.specs.Store.{Contents, KeepsOthers}
use Rattle.metadata_table.specs.Table.{IsTable}
use Rattle.sorted_file.specs.File.{StaysOpen}
use Rattle.tablet.specs.Laws.{UnnamedMayGo}
use Rattle.row_atomic.specs.Changes.{Holds, IsNumberedRefusal, IsRefusalOf}
use Rattle.row_atomic.specs.Clusters.{ClusterState, IsMatched}
use Rattle.row_atomic.specs.Commands.{IsOutcome, TellsFaults, done_of}
use Rattle.row_atomic.specs.Compactions as compaction
use Rattle.file_store.specs.declared.files.Files.{Ghosts as Files}
use Rattle.row_atomic.specs.Flushes.{KeepsShown, numbers_of}
use Rattle.row_atomic.specs.Roots.{Checkpoints, FlushesEach, PutsRoot, PutsRootOrNone, Rests, RootIsStored, StaysOrRests, RootOutlastsFlushes, AreFlushed, flushed, root_name}
use Rattle.row_atomic.specs.declared.commands.Command.TheVariants as command
use Rattle.row_atomic.specs.declared.commands.Outcome.{Outcome}
use Rattle.row_atomic.specs.declared.commands.Outcome.TheVariants as outcome
use Rattle.row_atomic.proofs.Flushes.{keeps_on, keeps_start}
use Rattle.row_atomic.proofs.MergeStates.{beside, root_still}
use Rattle.row_atomic.proofs.RestedClusters.{are_flushed, rests_after, stays_or_rests, still_told, when_done, when_refused as if_refused}
use Rattle.row_atomic.proofs.RootFlushes.{checkpointed, not_flushed, refused_same}

-- the state is kept, and faults are answered
pub record Tells {F : Type 0} (contents : F → Option Contents) (faults : F → ℕ) (result : Outcome) (old new : ClusterState F) : Type 0 where
  pub keeps : KeepsShown contents faults old new
  pub telling : TellsFaults faults result old new
  pub undamaged : Holds contents old → result ≢ outcome.Refused refused.Damaged

module _ {F : Type 0} (contents : F → Option Contents) (faults : F → ℕ) where
  -- an accepted compaction, and a refused one
  one_done : (old new : ClusterState F) (n : ℕ) → IsOutcome contents faults (command.Minor n) outcome.Done old new → Tells contents faults outcome.Done old new
  one_done old new n is = record {
    keeps = record { kept = λ holds. (is.still holds, is.answers holds); spots = is.files.1; limit = is.files.0.limit; later = is.faults.later };
    telling = is.faults;
    undamaged = λ holds same. cc;
  }

  same_refusal : (e f : Refusal) → outcome.Refused e ≡ outcome.Refused f → e ≡ f
  same_refusal e f same = cc

  one_refused : (old new : ClusterState F) (n : ℕ) (e : Refusal) → IsOutcome contents faults (command.Minor n) (outcome.Refused e) old new → Tells contents faults (outcome.Refused e) old new
  one_refused old new n e is = record {
    keeps = record { kept = λ holds. (is.still holds, (is.answers holds).1); spots = is.files.1; limit = is.files.0.limit; later = is.faults.later };
    telling = is.faults;
    undamaged = λ holds same. (is.answers holds).0 (same_refusal e refused.Damaged same);
  }

  not_device : outcome.Done ≢ outcome.Refused refused.Device
  not_device same = cc

  -- the accepted first part has no fault
  pub both_tell : (old mid new : ClusterState F) (result : Outcome) → Tells contents faults outcome.Done old mid → Tells contents faults result mid new → Tells contents faults result old new
  both_tell old mid new result first then =
      let same : faults mid.files ≡ faults old.files = first.telling.told not_device in
      record {
        keeps = keeps_on contents faults old mid new first.keeps then.keeps;
        telling = record {
          later = subst (λ (n : ℕ). n ≤ faults new.files) same then.telling.later;
          device = λ is. subst (λ (n : ℕ). HasRisen n (faults new.files)) same (then.telling.device is);
          told = λ other. then.telling.told other ∙ same;
        };
        undamaged = λ holds. then.undamaged (first.keeps.kept holds).0;
      }

  pub flushes_tell : (old new : ClusterState F) (ns : List ℕ) (result : Outcome) → FlushesEach contents faults old ns result new → Tells contents faults result old new
  flushes_tell old new [] result FlushesEach.flushes_none = record {
    keeps = keeps_start contents faults old;
    telling = record { later = omega arith; device = λ is. absurd (not_device is); told = λ other. refl };
    undamaged = λ holds same. cc;
  }
  flushes_tell old new (n ∷ ns) result (FlushesEach.flushes_one {now = now} is rest) = both_tell old now new result (one_done old now n is) (flushes_tell now new ns result rest)
  flushes_tell old new (n ∷ ns) result (FlushesEach.refuses_one e is) = one_refused old new n e is

  -- ---- the root

  pub root_keeps : (old : ClusterState F) (files : F) → IsTable old.places → IsMatched old.file_limit old.next_name old.places old.tablets → UnnamedMayGo → StaysOpen
      → (contents files ≡ contents old.files) ⊎ KeepsOthers root_name (contents old.files) (contents files) → faults old.files ≤ faults files
      → KeepsShown contents faults old (record old { files = files })
  root_keeps old files table matched law opened may later = record {
    kept = λ holds. beside (root_still opened (contents old.files) (contents files) old.file_limit old.next_name old.merge may holds.1)
        (still_told old.places old.tablets old.file_limit old.next_name table matched law (contents old.files) (contents files) may holds.0);
    spots = refl;
    limit = refl;
    later = later;
  }

  put_undamaged : (top floor : ℕ) (old : ClusterState F) (result : Outcome) (files : F) → PutsRoot contents top floor old result files → result ≢ outcome.Refused refused.Damaged
  put_undamaged top floor old outcome.Done files puts same = cc
  put_undamaged top floor old (outcome.Refused e) files puts same = elim puts.0 [
    | inl is ↦ (let this = same_refusal e refused.Damaged same in cc)
    | inr is ↦ (let this = same_refusal e refused.Damaged same in cc)
  ]
  put_undamaged top floor old _ files puts same = absurd puts

  pub put_tells : (top floor : ℕ) (old new : ClusterState F) (result : Outcome) → PutsRoot contents top floor old result new.files → KeepsShown contents faults old new → TellsFaults faults result old new → Tells contents faults result old new
  put_tells top floor old new result puts keeps tells = record { keeps = keeps; telling = tells; undamaged = λ holds. put_undamaged top floor old result new.files puts }

-- ---- refusals

-- a compaction of an existing tablet is never refused as unknown
pub known_refusal : (e : Refusal) → IsNumberedRefusal compaction.minor e → e ≢ refused.UnknownTablet → IsRefusalOf compaction.minor e
known_refusal refused.UnknownTablet is known = absurd (known refl)
known_refusal e is known = is

pub put_refusal : (e : Refusal) → (e ≡ refused.Device) ⊎ (e ≡ refused.NoMemory) → IsRefusalOf compaction.minor e
put_refusal e which = elim which [
  | inl is ↦ subst (IsRefusalOf compaction.minor) (sym is) tt
  | inr is ↦ subst (IsRefusalOf compaction.minor) (sym is) tt
]

pub passed_on : (P : Refusal → Type 0) (r : Result (Unit {0}) Refusal) (e : Refusal) → IsErrAnd r (λ f. f ≡ e) → P e → IfErr r P
passed_on P (Ok x) e by such = tt
passed_on P (Err f) e by such = subst P (sym by) such

module _ {F : Type 0} (contents : F → Option Contents) where
  pub when_refused : (top floor : ℕ) (old : ClusterState F) (files : F) (r : Result (Unit {0}) Refusal) → PutsRoot contents top floor old (done_of r) files → IfErr r (IsRefusalOf compaction.minor)
  when_refused top floor old files (Ok x) puts = tt
  when_refused top floor old files (Err e) puts = put_refusal e puts.0

  module _ (faults : F → ℕ) (old new : ClusterState F) (r : Result (Unit {0}) Refusal) where
    pub refused_tells : (e : Refusal) → IsErrAnd r (λ f. f ≡ e) → Tells contents faults (outcome.Refused e) old new → Tells contents faults (done_of r) old new
    refused_tells e by tells = subst (λ (result : Outcome). Tells contents faults result old new) (refused_same r e by) tells

    pub done_undamaged : Tells contents faults (done_of r) old new → Holds contents old → ¬ IsErrOf r refused.Damaged
    done_undamaged tells holds is = tells.undamaged holds (ap done_of is)

-- ---- a checkpoint as a flush and a put

-- The effects of a checkpoint with this result: the clauses of its contract.
pub record IsCheckpoint {F W : Type 0} (files : Files F W) (top floor : ℕ) (old : ClusterState F) (result : Result (Unit {0}) Refusal) (new : ClusterState F) : Type 0 where
  pub steps : Checkpoints files.contents files.faults top floor old (done_of result) new
  pub rests : OnOk result (Rests files.contents top floor old new)
  pub whole : files.replaces → OnErr result (StaysOrRests files.contents top floor old new)
  pub keeps : KeepsShown files.contents files.faults old new
  pub refusal : IfErr result (IsRefusalOf compaction.minor)
  pub undamaged : Holds files.contents old → ¬ IsErrOf result refused.Damaged
  pub faults : TellsFaults files.faults (done_of result) old new

module _ {F W : Type 0} (files : Files F W) (outlasts : RootOutlastsFlushes files.contents files.faults) (top floor : ℕ) (old new : ClusterState F) where
  -- a flush that is refused
  pub flush_refused : (e : Refusal) → FlushesEach files.contents files.faults old (numbers_of old.places) (outcome.Refused e) new → IsRefusalOf compaction.minor e → IsCheckpoint files top floor old (Err e) new
  flush_refused e flushes refusal =
      let tells = flushes_tell files.contents files.faults _ _ _ _ flushes in
      record {
        steps = not_flushed files.contents files.faults top floor old new (Err e) e refl flushes;
        rests = tt;
        whole = λ replaces. inl (λ root cells. (outlasts root cells old new).1 _ _ flushes);
        keeps = tells.keeps;
        refusal = refusal;
        undamaged = done_undamaged files.contents files.faults old new (Err e) tells;
        faults = tells.telling;
      }

  -- a flush behind which no root is put
  pub flush_rootless : FlushesEach files.contents files.faults old (numbers_of old.places) outcome.Done new → IsCheckpoint files top floor old (Err refused.NoMemory) new
  flush_rootless flushes =
      let none : TellsFaults files.faults (outcome.Refused refused.NoMemory) new new = record { later = omega arith; device = λ is. absurd cc; told = λ other. refl } in
      let tells = flushes_tell files.contents files.faults _ _ _ _ flushes in
      let both = both_tell files.contents files.faults old new new (outcome.Refused refused.NoMemory) tells (record { keeps = keeps_start files.contents files.faults new; telling = none; undamaged = λ holds same. cc }) in
      record {
        steps = flushed new (outcome.Refused refused.NoMemory) new.files flushes (inr refl, inl refl) none;
        rests = tt;
        whole = λ replaces. inl (λ root cells. (outlasts root cells old new).1 _ _ flushes);
        keeps = tells.keeps;
        refusal = tt;
        undamaged = λ holds is. cc;
        faults = both.telling;
      }

module _ {F W : Type 0} (files : Files F W) (stored : RootIsStored files.contents) (outlasts : RootOutlastsFlushes files.contents files.faults) (top floor : ℕ) (old mid new : ClusterState F) where
  -- a put behind a flush
  pub put_checkpoints : (r : Result (Unit {0}) Refusal) → FlushesEach files.contents files.faults old (numbers_of old.places) outcome.Done mid
      → PutsRoot files.contents top floor mid (done_of r) new.files → new ≡ record mid { files = new.files } → OnOk r (AreFlushed mid → Rests files.contents top floor mid new) → (files.replaces → OnErr r (PutsRootOrNone files.contents top floor mid new))
      → KeepsShown files.contents files.faults mid new → TellsFaults files.faults (done_of r) mid new → IsCheckpoint files top floor old r new
  put_checkpoints r flushes puts rest rests whole keeps faults =
      let tells = both_tell files.contents files.faults old mid new (done_of r) (flushes_tell files.contents files.faults _ _ _ _ flushes) (put_tells files.contents files.faults top floor mid new (done_of r) puts keeps faults) in
      record {
        steps = checkpointed files.contents files.faults top floor old mid new (done_of r) flushes puts rest faults;
        rests = when_done r (λ rests. rests_after files.contents files.faults top floor old mid new flushes (rests (are_flushed files.contents files.faults old mid flushes))) rests;
        whole = λ replaces. if_refused r (stays_or_rests files.contents files.faults stored outlasts top floor old mid new flushes rest) (whole replaces);
        keeps = tells.keeps;
        refusal = when_refused files.contents top floor mid new.files r puts;
        undamaged = done_undamaged files.contents files.faults old new r tells;
        faults = tells.telling;
      }
