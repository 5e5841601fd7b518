-- The parts of a command's outcome.
use Rattle.std.proofs.Common.{Global, ◌≡◌, ◌↔◌, ◌<◌, ◌≤◌, ◌⊎◌, inl, inr, ℕ, List, Option, Result, Ok, Err, IfOk, IfErr, OnOk, OnErr, IsErrOf, IfSome, option_map, length, ◌+◌, ◌++◌, refl, sym, ap, ◌∙◌, subst, arith}
use Rattle.std.specs.Result.{IsErrAnd}
use Rattle.std.specs.declared.vec.Vec.{Vec}
use Rattle.cell_key.specs.Cells.{after_edits}
use Rattle.cell_key.specs.Faults.{HasReason, HasRisen}
use Rattle.cell_key.specs.declared.edits.Edit.{Edit}
use Rattle.cell_key.specs.declared.refusals.Refusal.{Refusal}
use Rattle.cell_key.specs.declared.refusals.Refusal.TheVariants.{BadCount, BadSplit, Damaged, Device, Exhausted, FileTooLarge, MemtableFull, NoMemory, TooManyFiles, UnknownServer, UnknownTablet}
use Rattle.file_store.specs.Store.{Contents}
use Rattle.metadata_table.specs.Places.{PlaceView}
use Rattle.metadata_table.specs.Table.{BarsSplit, HasTablet, IsHolder, IsNumbered, IsTable, most_servers}
use Rattle.sorted_file.specs.Source.{IsReadRefusal as IsFileRefusal}
use Rattle.tablet.specs.Views.{UsesName}
use Rattle.tablet.specs.declared.tablet.Tablet.{Tablet}
use Rattle.row_atomic.specs.Changes.{Holds, IsAsBefore, IsCompacted, IsCut, IsEmptied, IsFlushed, IsFullTablet, IsHalved, IsMoveRefusal, IsMoved, IsNumberedRefusal, IsOn, IsOutOfOrder, IsRefusalOf, IsSplitRefusal, IsUndone, KeepsMap, ListsAll, MayBeFlushed, MayHolderBeFlushed, MeetsBadCount, MeetsFull, Numbered, OfHolder, Remakes, WritesNone}
use Rattle.row_atomic.specs.Clusters.{ClusterState, spots_of, storage_of}
use Rattle.row_atomic.specs.Commands.{AnswersFromCells, BarsCompaction, BarsReading, HasCause, IsNoFuller, IsOutcome, LeavesRoom, MayCompact, OverfillsCluster, TellsFaults, Upholds, UsesFiles, cells_shown, compacting, done_of, split_of, swept_of}
use Rattle.rows.specs.Refusals.{IsApplyRefusal, IsReadRefusal}
use Rattle.row_atomic.specs.MergeStates.{MayGiveUp}
use Rattle.row_atomic.specs.Sweeps.{MayLackUnkept, count_swept, is_kept, swept}
use Rattle.tablet.specs.declared.compactions.Compaction.{Compaction}
use Rattle.tablet.specs.declared.compactions.Compaction.TheVariants as compactions
use Rattle.row_atomic.specs.declared.commands.Command.{Command}
use Rattle.row_atomic.specs.declared.commands.Command.TheVariants as command
use Rattle.row_atomic.specs.declared.commands.Outcome.{Outcome}
use Rattle.row_atomic.specs.declared.commands.Outcome.TheVariants.{Done, Refused, Split, Swept}
use Rattle.row_atomic.proofs.PassedRefusals.{IsUnknown, below_only, read_move, read_split, unknown_move, unknown_only, unknown_unwritten, want_compacts}
use Rattle.row_atomic.proofs.ChangedTablets.{contained}
use Rattle.row_atomic.proofs.DamagedTablets.{none_out}
use Rattle.row_atomic.proofs.ListedFiles.{same_lists, stored_lists}
use Rattle.row_atomic.proofs.CompactionRoom.{holder_not, holder_that}
use Rattle.row_atomic.proofs.SplitClusters.{holder_known}

-- ---- refusals

pub numbered_refusal : (compaction : Compaction) (x : Refusal) → IsRefusalOf compaction x → IsNumberedRefusal compaction x
numbered_refusal compaction UnknownTablet h = tt
numbered_refusal compaction _ h = h

not_unknown : (compaction : Compaction) → ¬ IsRefusalOf compaction UnknownTablet
not_unknown compactions.Minor h = h
not_unknown (compactions.Merge count) h = h
not_unknown compactions.Major h = h

pub known_refusal : (compaction : Compaction) (e : Refusal) → IsRefusalOf compaction e → ¬ (e ≡ UnknownTablet)
known_refusal compaction e refusal is = not_unknown compaction (subst (IsRefusalOf compaction) is refusal)

-- only a flush is refused because the tablet has too many files
pub full_meets : {n : ℕ} {ts : List Tablet} (compaction : Compaction) (e : Refusal) → IsRefusalOf compaction e → (e ≡ TooManyFiles → Numbered IsFullTablet n ts) → e ≡ TooManyFiles → Numbered (MeetsFull compaction) n ts
full_meets compactions.Minor e refusal full is = full is
full_meets (compactions.Merge count) e refusal full is = absurd (subst (IsRefusalOf (compactions.Merge count)) is refusal)
full_meets compactions.Major e refusal full is = absurd (subst (IsRefusalOf compactions.Major) is refusal)

flush_bad : IsNumberedRefusal compactions.Minor BadSplit → ⊥
flush_bad h = h

flush_server : IsNumberedRefusal compactions.Minor UnknownServer → ⊥
flush_server h = h

read_not_bad : IsFileRefusal BadSplit → ⊥
read_not_bad h = h

read_not_server : IsFileRefusal UnknownServer → ⊥
read_not_server h = h

read_not_unknown : IsFileRefusal UnknownTablet → ⊥
read_not_unknown h = h

read_not_count : IsFileRefusal BadCount → ⊥
read_not_count h = h

read_not_many : IsFileRefusal TooManyFiles → ⊥
read_not_many h = h

read_not_out : IsFileRefusal Exhausted → ⊥
read_not_out h = h

read_not_large : IsFileRefusal FileTooLarge → ⊥
read_not_large h = h

-- the refusals of flushing an existing tablet are refusals of a split
flush_split : (x : Refusal) → IsNumberedRefusal compactions.Minor x → ¬ (x ≡ UnknownTablet) → IsSplitRefusal x
flush_split UnknownTablet h not = absurd (not refl)
flush_split BadSplit h not = tt
flush_split _ h not = h

flush_move : (x : Refusal) → IsNumberedRefusal compactions.Minor x → IsMoveRefusal x
flush_move UnknownServer h = tt
flush_move _ h = h

pub err_of : {A : Type 0} (x y : Refusal) → x ≡ y → IsErrOf {T = A} (Err x) y
err_of x y same = ap (λ (r : Refusal). Err r) same

tells : {F : Type 0} (count : F → ℕ) {A : Type 0} (r : Result A Refusal) (result : Outcome) (old new : ClusterState F) → (result ≡ Refused Device → IsErrOf r Device) → (IsErrOf r Device → result ≡ Refused Device)
    → HasReason (count old.files) (count new.files) r → TellsFaults count result old new
tells count r result old new to from reason = record { later = reason.later; device = λ is. reason.device (to is); told = λ other. reason.told (λ is. other (from is)) }

pub tells_done : {F : Type 0} (count : F → ℕ) {A : Type 0} (x : A) (result : Outcome) (old new : ClusterState F) → ¬ (result ≡ Refused Device) → HasReason (count old.files) (count new.files) (Ok x) → TellsFaults count result old new
tells_done count x result old new not reason = tells count (Ok x) result old new (λ is. absurd (not is)) (λ is. cc) reason

pub tells_refused : {F : Type 0} (count : F → ℕ) {A : Type 0} (e : Refusal) (old new : ClusterState F) → HasReason {T = A} (count old.files) (count new.files) (Err e) → TellsFaults count (Refused e) old new
tells_refused count e old new reason = tells count (Err e) (Refused e) old new (λ is. cc) (λ is. cc) reason

no_fault : {F : Type 0} (count : F → ℕ) (result : Outcome) (state : ClusterState F) → ¬ (result ≡ Refused Device) → TellsFaults count result state state
no_fault count result state not = record { later = omega arith; device = λ is. absurd (not is); told = λ other. refl }

-- the reason of a call's refusal is the reason of its caller's
pub err_reason : {A B : Type 0} (e : Refusal) (before now : ℕ) → HasReason {T = A} before now (Err e) → HasReason {T = B} before now (Err e)
err_reason e before now reason = record {
  later = reason.later;
  device = λ is. reason.device (err_of e Device (let is = is in cc));
  told = λ other. reason.told (λ is. other (err_of e Device (let is = is in cc)));
}

pub told_after : {F : Type 0} (count : F → ℕ) (result : Outcome) (old mid new : ClusterState F) → count mid.files ≡ count old.files → TellsFaults count result mid new → TellsFaults count result old new
told_after count result old mid new same told = record {
  later = subst (λ (k : ℕ). k ≤ count new.files) same told.later;
  device = λ is. subst (λ (k : ℕ). HasRisen k (count new.files)) same (told.device is);
  told = λ other. told.told other ∙ same;
}

-- ---- outcomes from the call's answer

module _ {F : Type 0} (contents : F → Option Contents) (count : F → ℕ) (command : Command) where
  pub refused_done : (r : Result (Unit {0}) Refusal) (e d : Refusal) (old new : ClusterState F) → IsErrAnd r (λ f. f ≡ e) → e ≡ d → IsOutcome contents count command (Refused d) old new → IsOutcome contents count command (done_of r) old new
  refused_done (Ok x) e d old new by same outcome = absurd by
  refused_done (Err f) e d old new by same outcome = subst (λ (x : Refusal). IsOutcome contents count command (Refused x) old new) (sym (by ∙ same)) outcome

  pub refused_split : (r : Result ℕ Refusal) (e d : Refusal) (old new : ClusterState F) → IsErrAnd r (λ f. f ≡ e) → e ≡ d → IsOutcome contents count command (Refused d) old new → IsOutcome contents count command (split_of r) old new
  refused_split (Ok x) e d old new by same outcome = absurd by
  refused_split (Err f) e d old new by same outcome = subst (λ (x : Refusal). IsOutcome contents count command (Refused x) old new) (sym (by ∙ same)) outcome

  pub refused_sweep : (r : Result ℕ Refusal) (e d : Refusal) (old new : ClusterState F) → IsErrAnd r (λ f. f ≡ e) → e ≡ d → IsOutcome contents count command (Refused d) old new → IsOutcome contents count command (swept_of r) old new
  refused_sweep (Ok x) e d old new by same outcome = absurd by
  refused_sweep (Err f) e d old new by same outcome = subst (λ (x : Refusal). IsOutcome contents count command (Refused x) old new) (sym (by ∙ same)) outcome

-- ---- compactions

-- a compaction's use of files and names, and its tablets' places
pub record Uses {F : Type 0} (contents : F → Option Contents) (nothing : Type 0) (old new : ClusterState F) : Type 0 where
  pub name : UsesName (contents old.files) old.next_name (contents new.files) new.next_name
  pub limit : new.file_limit ≡ old.file_limit
  pub none : nothing → (new.next_name ≡ old.next_name) × (contents new.files ≡ contents old.files)
  pub spots : spots_of new ≡ spots_of old

-- nothing is done: the tablets, files and names are unchanged
as_was : {F : Type 0} (state : ClusterState F) → IsAsBefore state state
as_was state = record { places = refl; tablets = refl }

pub none_done : {F : Type 0} (contents : F → Option Contents) (state : ClusterState F) → IsUndone contents state state
none_done contents state = record { as_before = as_was state; name = refl; files = refl }

not_device : (e : Refusal) → ¬ (e ≡ Device) → ¬ (Refused e ≡ Refused Device)
not_device e not is = not (let is = is in cc)

module _ {F : Type 0} (contents : F → Option Contents) (count : F → ℕ) (n : ℕ) (old new : ClusterState F) where
  -- an accepted compaction
  pub compacted : (compaction : Compaction) → KeepsMap contents old new → IsCompacted contents compaction n old new → Uses contents (Numbered (WritesNone compaction) n old.tablets) old new
      → MayCompact contents compaction n old → (compaction ≡ compactions.Minor → ListsAll old.places new.places) → TellsFaults count Done old new → IsOutcome contents count (compacting compaction n) Done old new
  compacted compactions.Minor kept made uses room lists told = record {
    still = λ order. (kept order).0;
    answers = λ order. (kept order).1;
    upholds = made;
    files = (record { name = uses.name; limit = uses.limit; none = uses.none }, uses.spots);
    lists = λ _. lists refl;
    room = tt;
    cause = room;
    faults = told;
  }
  compacted (compactions.Merge many) kept made uses room lists told = record {
    still = λ order. (kept order).0;
    answers = λ order. (kept order).1;
    upholds = made;
    files = (record { name = uses.name; limit = uses.limit; none = λ none. absurd none }, uses.spots);
    lists = λ none. absurd (none (tt, refl));
    room = tt;
    cause = room;
    faults = told;
  }
  compacted compactions.Major kept made uses room lists told = record {
    still = λ order. (kept order).0;
    answers = λ order. (kept order).1;
    upholds = made;
    files = (record { name = uses.name; limit = uses.limit; none = λ none. absurd none }, uses.spots);
    lists = λ none. absurd (none (tt, refl));
    room = tt;
    cause = room;
    faults = told;
  }

  -- a refused compaction of an existing tablet
  pub uncompacted : (compaction : Compaction) (e : Refusal) → KeepsMap contents old new → (Holds contents old → ¬ (e ≡ Damaged)) → IsRefusalOf compaction e → IsAsBefore old new
      → Uses contents (Numbered (WritesNone compaction) n old.tablets) old new → BarsCompaction contents compaction n e old → BarsReading contents compaction n e old → ¬ (e ≡ UnknownTablet) → ¬ (e ≡ BadCount) → (e ≡ TooManyFiles → IsUndone contents old new)
      → TellsFaults count (Refused e) old new → IsOutcome contents count (compacting compaction n) (Refused e) old new
  uncompacted compactions.Minor e kept whole refusal as_before uses bars reads known counted undone told = record {
    still = λ order. (kept order).0;
    answers = λ order. (whole order, (kept order).1);
    upholds = (numbered_refusal compactions.Minor e refusal, as_before);
    files = (record { name = uses.name; limit = uses.limit; none = uses.none }, uses.spots);
    lists = λ _. same_lists old.places new.places as_before.places;
    room = tt;
    cause = record { due = (bars, reads); barred = λ same. absurd (known same); undone = undone };
    faults = told;
  }
  uncompacted (compactions.Merge many) e kept whole refusal as_before uses bars reads known counted undone told = record {
    still = λ order. (kept order).0;
    answers = λ order. (whole order, (kept order).1);
    upholds = (numbered_refusal (compactions.Merge many) e refusal, as_before);
    files = (record { name = uses.name; limit = uses.limit; none = λ none. absurd none }, uses.spots);
    lists = λ _. same_lists old.places new.places as_before.places;
    room = tt;
    cause = record {
      due = (bars, reads);
      barred = λ barred. elim barred [
        | inl same ↦ absurd (known same)
        | inr same ↦ absurd (counted same)
      ];
      undone = undone;
    };
    faults = told;
  }
  uncompacted compactions.Major e kept whole refusal as_before uses bars reads known counted undone told = record {
    still = λ order. (kept order).0;
    answers = λ order. (whole order, (kept order).1);
    upholds = (numbered_refusal compactions.Major e refusal, as_before);
    files = (record { name = uses.name; limit = uses.limit; none = λ none. absurd none }, uses.spots);
    lists = λ _. same_lists old.places new.places as_before.places;
    room = tt;
    cause = record { due = (bars, reads); barred = λ same. absurd (known same); undone = undone };
    faults = told;
  }

-- a compaction that is refused before anything is done
module _ {F : Type 0} (contents : F → Option Contents) (count : F → ℕ) (n : ℕ) (state : ClusterState F) where
  pub stopped : (compaction : Compaction) (e : Refusal) → IsNumberedRefusal compaction e → ¬ (e ≡ Damaged) → ¬ (e ≡ Device) → BarsCompaction contents compaction n e state → BarsReading contents compaction n e state → IsOutcome contents count (compacting compaction n) (Refused e) state state
  stopped compactions.Minor e refusal whole not bars reads = record {
    still = λ order. order;
    answers = λ order. (whole, refl);
    upholds = (refusal, as_was state);
    files = (record { name = inl (refl, refl); limit = refl; none = λ _. (refl, refl) }, refl);
    lists = λ _ name l. l;
    room = tt;
    cause = record { due = (bars, reads); barred = λ _. refl; undone = λ _. none_done contents state };
    faults = no_fault count (Refused e) state (not_device e not);
  }
  stopped (compactions.Merge many) e refusal whole not bars reads = record {
    still = λ order. order;
    answers = λ order. (whole, refl);
    upholds = (refusal, as_was state);
    files = (record { name = inl (refl, refl); limit = refl; none = λ _. (refl, refl) }, refl);
    lists = λ _ name l. l;
    room = tt;
    cause = record { due = (bars, reads); barred = λ _. refl; undone = λ _. none_done contents state };
    faults = no_fault count (Refused e) state (not_device e not);
  }
  stopped compactions.Major e refusal whole not bars reads = record {
    still = λ order. order;
    answers = λ order. (whole, refl);
    upholds = (refusal, as_was state);
    files = (record { name = inl (refl, refl); limit = refl; none = λ _. (refl, refl) }, refl);
    lists = λ _ name l. l;
    room = tt;
    cause = record { due = (bars, reads); barred = λ _. refl; undone = λ _. none_done contents state };
    faults = no_fault count (Refused e) state (not_device e not);
  }

  pub unknown : (compaction : Compaction) → ¬ HasTablet n state.places → IsOutcome contents count (compacting compaction n) (Refused UnknownTablet) state state
  unknown compaction not = stopped compaction UnknownTablet tt (λ is. cc) (λ is. cc) (record {
    unknown = ((λ _. not), λ _. refl);
    count = ((λ is. cc), λ bad. absurd (not bad.0));
    full = λ is. cc;
    unfilled = λ of. absurd of;
    exhausted = λ is. cc;
    large = λ is. cc;
    damaged = λ is. cc;
  }) (record { large = λ is. cc; damaged = λ is. cc })

  pub uncounted : (many : ℕ) → HasTablet n state.places → Numbered (MeetsBadCount (compactions.Merge many)) n state.tablets → IsOutcome contents count (command.Merge n many) (Refused BadCount) state state
  uncounted many known bad = stopped (compactions.Merge many) BadCount tt (λ is. cc) (λ is. cc) (record {
    unknown = ((λ is. cc), λ not. absurd (not known));
    count = ((λ _. (known, bad)), λ _. refl);
    full = λ is. cc;
    unfilled = λ of. absurd of;
    exhausted = λ is. cc;
    large = λ is. cc;
    damaged = λ is. cc;
  }) (record { large = λ is. cc; damaged = λ is. cc })

  pub unstarted : (compaction : Compaction) → HasTablet n state.places → ¬ Numbered (MeetsBadCount compaction) n state.tablets → IsOutcome contents count (compacting compaction n) (Refused NoMemory) state state
  unstarted compaction known within = stopped compaction NoMemory (numbered_refusal compaction NoMemory (want_compacts compaction NoMemory tt)) (λ is. cc) (λ is. cc) (record {
    unknown = ((λ is. cc), λ not. absurd (not known));
    count = ((λ is. cc), λ bad. absurd (within bad.1));
    full = λ is. cc;
    unfilled = λ of. absurd of;
    exhausted = λ is. cc;
    large = λ is. cc;
    damaged = λ is. cc;
  }) (record { large = λ is. cc; damaged = λ is. cc })

-- ---- splits

module _ {F : Type 0} (contents : F → Option Contents) (count : F → ℕ) (row : List ℕ) where
  pub uncut : (state : ClusterState F) → BarsSplit row state.places → IsOutcome contents count (command.Split row) (Refused BadSplit) state state
  uncut state bars = record {
    still = λ order. order;
    answers = λ order. ((λ is. cc), refl);
    upholds = (tt, (refl, λ place holder. inl refl));
    files = record { name = inl (refl, refl); limit = refl; none = λ _. (refl, refl) };
    lists = λ _ name l. l;
    room = tt;
    cause = record {
      due = record { bad = ((λ _. bars), λ _. refl); full = λ is. cc; unfilled = λ of. absurd of; exhausted = λ is. cc; large = λ is. cc; damaged = λ is. cc };
      barred = λ _. refl;
      undone = λ _. none_done contents state;
    };
    faults = no_fault count (Refused BadSplit) state (λ is. cc);
  }

  -- the room for the cut was refused
  pub unroomed : (state : ClusterState F) → ¬ BarsSplit row state.places → IsOutcome contents count (command.Split row) (Refused NoMemory) state state
  unroomed state free = record {
    still = λ order. order;
    answers = λ order. ((λ is. cc), refl);
    upholds = (tt, (refl, λ place holder. inl refl));
    files = record { name = inl (refl, refl); limit = refl; none = λ _. (refl, refl) };
    lists = λ _ name l. l;
    room = tt;
    cause = record {
      due = record { bad = ((λ is. cc), λ bars. absurd (free bars)); full = λ is. cc; unfilled = λ of. absurd of; exhausted = λ is. cc; large = λ is. cc; damaged = λ is. cc };
      barred = λ is. cc;
      undone = λ _. none_done contents state;
    };
    faults = no_fault count (Refused NoMemory) state (λ is. cc);
  }

  module _ (p : PlaceView) (old mid : ClusterState F) (holder : IsHolder row old.places p) (free : ¬ BarsSplit row old.places) where
    -- the flush was refused
    pub unflushed : (e : Refusal) → IsOutcome contents count (command.Minor p.tablet) (Refused e) old mid → IsOutcome contents count (command.Split row) (Refused e) old mid
    unflushed e flush =
        let due = flush.cause.due.0 in
        record {
          still = flush.still;
          answers = flush.answers;
          upholds = (flush_split e flush.upholds.0 (λ is. due.unknown.0 is (holder_known row old.places p holder)), (flush.files.1, λ place at. inl flush.upholds.1.tablets));
          files = record { name = flush.files.0.name; limit = flush.files.0.limit; none = λ none. flush.files.0.none (holder_that IsEmptied row old.places old.tablets p holder none) };
          lists = λ _. flush.lists (λ takes. absurd takes.0);
          room = tt;
          cause = record {
            due = record {
              bad = ((λ is. absurd (flush_bad (subst (IsNumberedRefusal compactions.Minor) is flush.upholds.0))), λ bars. absurd (free bars));
              full = λ is. record { place = p; holder = holder; tablet = due.full is };
              unfilled = λ of. holder_not IsFullTablet row old.places old.tablets p holder (due.unfilled of);
              exhausted = λ is. let none_left = due.exhausted is in (none_left.0, holder_not IsEmptied row old.places old.tablets p holder none_left.1);
              large = λ is. record { place = p; holder = holder; tablet = due.large is };
              damaged = λ is. record { place = p; holder = holder; tablet = due.damaged is };
            };
            barred = λ is. absurd (flush_bad (subst (IsNumberedRefusal compactions.Minor) is flush.upholds.0));
            undone = flush.cause.undone;
          };
          faults = flush.faults;
        }

    -- the flush was done, and then the tablet was cut, or not
    pub cut_after : (new : ClusterState F) (r : Result ℕ Refusal) → IsOutcome contents count (command.Minor p.tablet) Done old mid
        → KeepsMap contents mid new → new.file_limit ≡ mid.file_limit → UsesName (contents old.files) old.next_name (contents new.files) new.next_name
        → (OfHolder IsEmptied row old.places old.tablets → (new.next_name ≡ old.next_name) × (contents new.files ≡ contents old.files))
        → IfOk r (λ left. left ≡ length old.places + 1) → IfOk r (λ left. IsCut row left old.places new.places) → IfOk r (λ left. IsHalved old.next_name row left old.places old.tablets new.tablets)
        → OnErr r (spots_of new ≡ spots_of old) → OnErr r (MayHolderBeFlushed old.next_name row old.places old.tablets new.tablets)
        → ListsAll mid.places new.places → (IsErrOf r Damaged → OfHolder (IsOutOfOrder (contents old.files)) row old.places old.tablets) → IfErr r IsFileRefusal → HasReason (count mid.files) (count new.files) r
        → IsOutcome contents count (command.Split row) (split_of r) old new
    cut_after new (Ok left) flush kept limit name none number cut halved spots may lists damaged refusal reason = record {
      still = λ order. (kept (flush.still order)).0;
      answers = λ order. (kept (flush.still order)).1 ∙ flush.answers order;
      upholds = (number, cut, halved);
      files = record { name = name; limit = limit ∙ flush.files.0.limit; none = none };
      lists = λ _ name l. lists name (flush.lists (λ takes. absurd takes.0) name l);
      room = tt;
      cause = record {
        free = free;
        room = holder_not IsFullTablet row old.places old.tablets p holder flush.cause.room;
        named = λ most. record { place = p; holder = holder; tablet = flush.cause.named most };
        fits = record { place = p; holder = holder; tablet = flush.cause.fits };
      };
      faults = told_after count (Split left) old mid new (flush.faults.told (λ is. cc)) (tells_done count left (Split left) mid new (λ is. cc) reason);
    }
    cut_after new (Err e) flush kept limit name none number cut halved spots may lists damaged refusal reason = record {
      still = λ order. (kept (flush.still order)).0;
      answers = λ order. ((λ is. none_out (contents old.files) old.next_name p.tablet old.tablets order.0 (holder_that (IsOutOfOrder (contents old.files)) row old.places old.tablets p holder (damaged (err_of e Damaged is)))), (kept (flush.still order)).1 ∙ flush.answers order);
      upholds = (read_split e refusal, (spots, may));
      files = record { name = name; limit = limit ∙ flush.files.0.limit; none = none };
      lists = λ _ name l. lists name (flush.lists (λ takes. absurd takes.0) name l);
      room = tt;
      cause = record {
        due = record {
          bad = ((λ is. absurd (read_not_bad (subst IsFileRefusal is refusal))), λ bars. absurd (free bars));
          full = λ is. absurd (read_not_many (subst IsFileRefusal is refusal));
          unfilled = λ of. holder_not IsFullTablet row old.places old.tablets p holder flush.cause.room;
          exhausted = λ is. absurd (read_not_out (subst IsFileRefusal is refusal));
          large = λ is. absurd (read_not_large (subst IsFileRefusal is refusal));
          damaged = λ is. damaged (err_of e Damaged is);
        };
        barred = λ is. absurd (read_not_bad (subst IsFileRefusal is refusal));
        undone = λ is. absurd (read_not_many (subst IsFileRefusal is refusal));
      };
      faults = told_after count (Refused e) old mid new (flush.faults.told (λ is. cc)) (tells_refused count e mid new reason);
    }

-- ---- moves

on_near : (n server : ℕ) (places : List PlaceView) → IsTable places → IsOn n server places → server < most_servers
on_near n server places table on =
    let below = (contained (IsNumbered (length places)) places on.0 table.numbered on.1).server in
    let same = on.3 in
    omega arith

off_of : (n server : ℕ) (places : List PlaceView) (e : Refusal) → IsTable places → (e ≡ UnknownTablet ↔ ¬ HasTablet n places) → (e ≡ UnknownServer ↔ (HasTablet n places × (most_servers ≤ server))) → (e ≡ UnknownTablet) ⊎ (e ≡ UnknownServer) → ¬ IsOn n server places
off_of n server places e table known near (inl is) on = known.0 is (on.0, on.1, on.2)
off_of n server places e table known near (inr is) on =
    below_only server most_servers (on_near n server places table on) (near.0 is).1

pub as_refusal : {A : Type 0} (e n : Refusal) (P : Type 0) → (IsErrOf {T = A} (Err e) n ↔ P) → (e ≡ n ↔ P)
as_refusal e n P only = ((λ is. only.0 (err_of e n is)), λ h. let is = only.1 h in cc)

module _ {F : Type 0} (contents : F → Option Contents) (count : F → ℕ) (n server : ℕ) where
  -- there is no such tablet, or no such server
  pub unmoved : (state : ClusterState F) (e : Refusal) → IsTable state.places → (e ≡ UnknownTablet) ⊎ (e ≡ UnknownServer) → (e ≡ UnknownTablet ↔ ¬ HasTablet n state.places)
      → (e ≡ UnknownServer ↔ (HasTablet n state.places × (most_servers ≤ server))) → IsOutcome contents count (command.Move n server) (Refused e) state state
  unmoved state e table which known near =
      let unknown = unknown_only e which in
      record {
        still = λ order. order;
        answers = λ order. ((λ is. subst IsUnknown is unknown), refl);
        upholds = (unknown_move e unknown, (off_of n server state.places e table known near which, refl, inl refl));
        files = record { name = inl (refl, refl); limit = refl; none = λ _. (refl, refl) };
        lists = λ _ name l. l;
        room = tt;
        cause = record {
          due = (
            near,
            record {
              unknown = known;
              count = ((λ is. absurd (subst IsUnknown is unknown)), λ bad. absurd bad.1.such);
              full = λ is. absurd (subst IsUnknown is unknown);
              unfilled = λ of. absurd (unknown_unwritten e unknown of);
              exhausted = λ is. absurd (subst IsUnknown is unknown);
              large = λ is. absurd (subst IsUnknown is unknown);
              damaged = λ is. absurd (subst IsUnknown is unknown);
            },
          );
          barred = λ _. refl;
          undone = λ _. none_done contents state;
        };
        faults = no_fault count (Refused e) state (not_device e (λ is. subst IsUnknown is unknown));
      }

  -- the tablet is already there
  pub stayed : (state : ClusterState F) → IsTable state.places → IsOn n server state.places → IsOutcome contents count (command.Move n server) Done state state
  stayed state table on = record {
    still = λ order. order;
    answers = λ order. refl;
    upholds = inl (on, refl);
    files = record { name = inl (refl, refl); limit = refl; none = λ _. (refl, refl) };
    lists = λ _ name l. l;
    room = tt;
    cause = record { known = (on.0, on.1, on.2); near = on_near n server state.places table on; flushes = λ away. absurd (away on) };
    faults = no_fault count Done state (λ is. cc);
  }

  module _ (old mid : ClusterState F) (known : HasTablet n old.places) (below : server < most_servers) (away : ¬ IsOn n server old.places) where
    -- the flush was refused
    pub flush_refused : (e : Refusal) → IsOutcome contents count (command.Minor n) (Refused e) old mid → IsOutcome contents count (command.Move n server) (Refused e) old mid
    flush_refused e flush =
        let near : ¬ (e ≡ UnknownServer) = λ is. flush_server (subst (IsNumberedRefusal compactions.Minor) is flush.upholds.0) in
        record {
          still = flush.still;
          answers = flush.answers;
          upholds = (flush_move e flush.upholds.0, (away, flush.files.1, inl flush.upholds.1.tablets));
          files = record { name = flush.files.0.name; limit = flush.files.0.limit; none = flush.files.0.none };
          lists = λ _. flush.lists (λ takes. absurd takes.0);
          room = tt;
          cause = record {
            due = (((λ is. absurd (near is)), λ far. absurd (below_only _ _ below far.1)), flush.cause.due.0);
            barred = λ barred. elim barred [
              | inl is ↦ absurd (flush.cause.due.0.unknown.0 is known)
              | inr is ↦ absurd (near is)
            ];
            undone = flush.cause.undone;
          };
          faults = flush.faults;
        }

    -- the flush was done, and then the tablet was put on the server, or not
    pub put_after : (new : ClusterState F) (r : Result (Unit {0}) Refusal) → IsOutcome contents count (command.Minor n) Done old mid
        → KeepsMap contents mid new → new.file_limit ≡ mid.file_limit → UsesName (contents old.files) old.next_name (contents new.files) new.next_name
        → (Numbered IsEmptied n old.tablets → (new.next_name ≡ old.next_name) × (contents new.files ≡ contents old.files))
        → OnOk r (IsMoved n server old.places new.places) → OnOk r (Remakes (IsFlushed old.next_name) n old.tablets new.tablets)
        → OnErr r (spots_of new ≡ spots_of old) → OnErr r (MayBeFlushed old.next_name n old.tablets new.tablets)
        → ListsAll mid.places new.places → (IsErrOf r Damaged → Numbered (IsOutOfOrder (contents old.files)) n old.tablets) → IfErr r IsFileRefusal → HasReason (count mid.files) (count new.files) r
        → IsOutcome contents count (command.Move n server) (done_of r) old new
    put_after new (Ok x) flush kept limit name none moved flushed spots may lists damaged refusal reason = record {
      still = λ order. (kept (flush.still order)).0;
      answers = λ order. (kept (flush.still order)).1 ∙ flush.answers order;
      upholds = inr (record { elsewhere = away; moved = moved; flushed = flushed });
      files = record { name = name; limit = limit ∙ flush.files.0.limit; none = none };
      lists = λ _ name l. lists name (flush.lists (λ takes. absurd takes.0) name l);
      room = tt;
      cause = record { known = known; near = below; flushes = λ _. flush.cause };
      faults = told_after count Done old mid new (flush.faults.told (λ is. cc)) (tells_done count x Done mid new (λ is. cc) reason);
    }
    put_after new (Err e) flush kept limit name none moved flushed spots may lists damaged refusal reason = record {
      still = λ order. (kept (flush.still order)).0;
      answers = λ order. ((λ is. none_out (contents old.files) old.next_name n old.tablets order.0 (damaged (err_of e Damaged is))), (kept (flush.still order)).1 ∙ flush.answers order);
      upholds = (read_move e refusal, (away, spots, may));
      files = record { name = name; limit = limit ∙ flush.files.0.limit; none = none };
      lists = λ _ name l. lists name (flush.lists (λ takes. absurd takes.0) name l);
      room = tt;
      cause = record {
        due = (
          ((λ is. absurd (read_not_server (subst IsFileRefusal is refusal))), λ far. absurd (below_only _ _ below far.1)),
          record {
            unknown = ((λ is. absurd (read_not_unknown (subst IsFileRefusal is refusal))), λ not. absurd (not known));
            count = ((λ is. absurd (read_not_count (subst IsFileRefusal is refusal))), λ bad. absurd bad.1.such);
            full = λ is. absurd (read_not_many (subst IsFileRefusal is refusal));
            unfilled = λ of. flush.cause.room;
            exhausted = λ is. absurd (read_not_out (subst IsFileRefusal is refusal));
            large = λ is. absurd (read_not_large (subst IsFileRefusal is refusal));
            damaged = λ is. damaged (err_of e Damaged is);
          },
        );
        barred = λ barred. elim barred [
          | inl is ↦ absurd (read_not_unknown (subst IsFileRefusal is refusal))
          | inr is ↦ absurd (read_not_server (subst IsFileRefusal is refusal))
        ];
        undone = λ is. absurd (read_not_many (subst IsFileRefusal is refusal));
      };
      faults = told_after count (Refused e) old mid new (flush.faults.told (λ is. cc)) (tells_refused count e mid new reason);
    }

-- ---- sweeps

module _ {F : Type 0} (contents : F → Option Contents) (count : F → ℕ) (old new : ClusterState F) (kept : KeepsMap contents old new) (rest : new ≡ record old { files = new.files; merge = new.merge }) (given : MayGiveUp old.merge new.merge) where
  -- other files use no room in memory
  same_room : IsNoFuller old new
  same_room row later full = subst (λ (state : ClusterState F). OverfillsCluster state row later) rest full

  pub swept_so : (r : Result ℕ Refusal) → OnOk r (contents new.files ≡ option_map (swept (is_kept old.places)) (contents old.files)) → IfOk r (λ many. IfSome (contents old.files) (λ m. many ≡ count_swept (is_kept old.places) m))
      → MayLackUnkept (is_kept old.places) (contents old.files) (contents new.files) → IfErr r (λ refusal. (refusal ≡ Device) ⊎ (refusal ≡ NoMemory)) → HasReason (count old.files) (count new.files) r → IsOutcome contents count command.Sweep (swept_of r) old new
  swept_so (Ok many) files counted lacks refusal reason = record {
    still = λ order. (kept order).0;
    answers = λ order. (kept order).1;
    upholds = record { files = files; counted = counted; rest = rest; merge = given };
    files = tt;
    lists = λ _. same_lists old.places new.places (ap (λ state. state.places) rest);
    room = same_room;
    cause = tt;
    faults = tells_done count many (Swept many) old new (λ is. cc) reason;
  }
  swept_so (Err e) files counted lacks refusal reason = record {
    still = λ order. (kept order).0;
    answers = λ order. (
      (λ is. elim refusal [
        | inl device ↦ (let wrong = sym is ∙ device in cc)
        | inr want ↦ (let wrong = sym is ∙ want in cc)
      ]),
      (kept order).1,
    );
    upholds = (refusal, record { files = lacks; rest = rest; merge = given });
    files = tt;
    lists = λ _. same_lists old.places new.places (ap (λ state. state.places) rest);
    room = same_room;
    cause = record {
      due = tt;
      barred = λ bars. absurd bars;
      undone = λ is. elim refusal [
        | inl device ↦ (let wrong = sym is ∙ device in cc)
        | inr want ↦ (let wrong = sym is ∙ want in cc)
      ];
    };
    faults = tells_refused count e old new reason;
  }

-- ---- reads and changes of a row

many_not_read : IsReadRefusal TooManyFiles → ⊥
many_not_read h = h

many_not_apply : IsApplyRefusal TooManyFiles → ⊥
many_not_apply h = h

damaged_not_apply : IsApplyRefusal Damaged → ⊥
damaged_not_apply h = h

device_not_apply : IsApplyRefusal Device → ⊥
device_not_apply h = h

pub of_done : {F : Type 0} (contents : F → Option Contents) (count : F → ℕ) (command : Command) (r : Result (Unit {0}) Refusal) (result : Outcome) (old new : ClusterState F) → result ≡ done_of r → IsOutcome contents count command (done_of r) old new → IsOutcome contents count command result old new
of_done contents count command r result old new is told = subst (λ (o : Outcome). IsOutcome contents count command o old new) (sym is) told

pub tells_read : {F : Type 0} {A : Type 0} (count : F → ℕ) (r : Result A Refusal) (x : A) (result : Outcome) (old new : ClusterState F) → r ≡ Ok x → ¬ (result ≡ Refused Device)
    → count old.files ≤ count new.files → (¬ IsErrOf r Device → count new.files ≡ count old.files) → TellsFaults count result old new
tells_read count r x result old new is not later told = record { later = later; device = λ same. absurd (not same); told = λ _. told (λ err. cc) }

module _ {F : Type 0} (contents : F → Option Contents) (count : F → ℕ) where
  pub read_refused : {A : Type 0} (command : Command) (r : Result A Refusal) (e : Refusal) (old new : ClusterState F) → r ≡ Err e → (Holds contents old → Holds contents new)
      → (Holds contents old → AnswersFromCells (cells_shown contents old) command (Refused e) (cells_shown contents new)) → Upholds contents command (Refused e) old new → UsesFiles contents command old new → storage_of contents new ≡ storage_of contents old
      → LeavesRoom command (Refused e) old new → (¬ (e ≡ TooManyFiles) → HasCause contents command (Refused e) old new) → IsReadRefusal e
      → count old.files ≤ count new.files → (IsErrOf r Device → HasRisen (count old.files) (count new.files)) → (¬ IsErrOf r Device → count new.files ≡ count old.files)
      → IsOutcome contents count command (Refused e) old new
  read_refused command r e old new is still answers upholds files stays room cause refusal later device told = record {
    still = still;
    answers = answers;
    upholds = upholds;
    files = files;
    lists = λ _. stored_lists contents old new stays;
    room = room;
    cause = cause (λ same. many_not_read (subst IsReadRefusal same refusal));
    faults = record { later = later; device = λ same. device (is ∙ err_of e Device (let same = same in cc)); told = λ other. told (λ err. other (let err = sym is ∙ err in cc)) };
  }

  pub applied : (row : List ℕ) (edits : Vec Edit Global) (old new : ClusterState F) (r : Result (Unit {0}) Refusal) → (Holds contents old → Holds contents new)
      → (Holds contents old → OnOk r (cells_shown contents new ≡ after_edits (cells_shown contents old) edits.items)) → (Holds contents old → OnErr r (cells_shown contents new ≡ cells_shown contents old))
      → storage_of contents new ≡ storage_of contents old → (IsErrOf r MemtableFull → OverfillsCluster old row edits.items) → OnOk r (¬ OverfillsCluster old row edits.items)
      → OnOk r ((at : List ℕ) (later : List Edit) → OverfillsCluster new at later → OverfillsCluster old at later ⊎ OverfillsCluster old at (edits.items ++ later)) → OnErr r (IsNoFuller old new)
      → IfErr r IsApplyRefusal → count new.files ≡ count old.files → IsOutcome contents count (command.Apply row edits) (done_of r) old new
  applied row edits old new (Ok x) still ok err storage full within room err_room refusal same = record {
    still = still;
    answers = ok;
    upholds = storage;
    files = tt;
    lists = λ _. stored_lists contents old new storage;
    room = λ at later over. elim (room at later over) [
      | inl before ↦ inl before
      | inr after ↦ inr (row, edits.items, (refl, refl), after)
    ];
    cause = within;
    faults = record { later = omega (arith, same); device = λ is. cc; told = λ _. same };
  }
  applied row edits old new (Err e) still ok err storage full within room err_room refusal same = record {
    still = still;
    answers = λ order. ((λ is. damaged_not_apply (subst IsApplyRefusal is refusal)), err order);
    upholds = (refusal, storage);
    files = tt;
    lists = λ _. stored_lists contents old new storage;
    room = err_room;
    cause = record { due = λ is. full (err_of e MemtableFull is); barred = λ bars. absurd bars; undone = λ is. absurd (many_not_apply (subst IsApplyRefusal is refusal)) };
    faults = record { later = omega (arith, same); device = λ is. let that : e ≡ Device = cc in absurd (device_not_apply (subst IsApplyRefusal that refusal)); told = λ _. same };
  }
