-- A merge is given up, or stays, before a sweep.
use Rattle.std.proofs.Common.{◌≡◌, ℕ, Bool, List, Option, Some, None, Result, Ok, Err, IfOk, IfSome, option_map, sym, ap, ◌∙◌, subst}
use Rattle.cell_key.specs.Faults.{HasReason}
use Rattle.cell_key.specs.declared.refusals.Refusal.{Refusal}
use Rattle.file_store.specs.Store.{Contents}
use Rattle.metadata_table.specs.Places.{PlaceView}
use Rattle.row_atomic.specs.Changes.{Holds}
use Rattle.row_atomic.specs.Clusters.{ClusterState, InOrder, cells_in}
use Rattle.row_atomic.specs.Commands.{IsOutcome, cells_shown, swept_of}
use Rattle.row_atomic.specs.MergeStates.{MayGiveUp, MergeState}
use Rattle.row_atomic.specs.Open.{HasBadRoot}
use Rattle.row_atomic.specs.RootSweeps.{AreNamedIn, SweepsBesideRoot}
use Rattle.row_atomic.specs.Sweeps.{IsSwept, IsSweptInPart, MayLackUnkept, count_swept, is_kept, is_kept_beside, swept}
use Rattle.row_atomic.specs.declared.commands.Command.TheVariants as command
use Rattle.row_atomic.specs.declared.commands.Outcome.TheVariants.{Refused, Swept}
use Rattle.row_atomic.proofs.MergeStates.{given_still, told_still}
use Rattle.row_atomic.proofs.Outcomes.{told_after}

given_twice : (old mid new : Option MergeState) → MayGiveUp old mid → MayGiveUp mid new → MayGiveUp old new
given_twice old mid None first then = tt
given_twice old mid (Some merge) first then = subst (MayGiveUp old) then first

module _ {F : Type 0} (contents : F → Option Contents) (faults : F → ℕ) (old : ClusterState F) (files : F) (merge : Option MergeState) (given : MayGiveUp old.merge merge)
    (same : contents files ≡ contents old.files) (told : faults files ≡ faults old.files) where
  abbrev mid : ClusterState F
  mid = record old { files = files; merge = merge }

  mid_holds : Holds contents old → Holds contents mid
  mid_holds holds = (
    subst (λ (o : Option Contents). InOrder o old.next_name old.tablets) (sym same) holds.0,
    given_still (contents files) old.file_limit old.next_name old.merge merge given (told_still (contents old.files) (contents files) old.file_limit old.next_name old.merge same holds.1),
  )

  mid_shown : cells_shown contents mid ≡ cells_shown contents old
  mid_shown = ap (λ (o : Option Contents). cells_in o old.tablets) same

  all_swept : (kept : ℕ → Bool) (count : ℕ) (new : ClusterState F) → IsSwept kept contents count mid new → IsSwept kept contents count old new
  all_swept kept count new is = record {
    files = is.files ∙ ap (option_map (swept kept)) same;
    counted = subst (λ (o : Option Contents). IfSome o (λ m. count ≡ count_swept kept m)) same is.counted;
    rest = is.rest;
    merge = given_twice old.merge merge new.merge given is.merge;
  }

  part_swept : (kept : ℕ → Bool) (new : ClusterState F) → IsSweptInPart kept contents mid new → IsSweptInPart kept contents old new
  part_swept kept new is = record {
    files = subst (λ (o : Option Contents). MayLackUnkept kept o (contents new.files)) same is.files;
    rest = is.rest;
    merge = given_twice old.merge merge new.merge given is.merge;
  }

  swept_behind : (r : Result ℕ Refusal) (new : ClusterState F) → IsOutcome contents faults command.Sweep (swept_of r) mid new → IsOutcome contents faults command.Sweep (swept_of r) old new
  swept_behind (Ok count) new is = record {
    still = λ holds. is.still (mid_holds holds);
    answers = λ holds. is.answers (mid_holds holds) ∙ mid_shown;
    upholds = all_swept (is_kept old.places) count new is.upholds;
    files = tt;
    lists = is.lists;
    room = is.room;
    cause = tt;
    faults = told_after faults (Swept count) old mid new told is.faults;
  }
  swept_behind (Err e) new is = record {
    still = λ holds. is.still (mid_holds holds);
    answers = λ holds. (let found = is.answers (mid_holds holds) in (found.0, found.1 ∙ mid_shown));
    upholds = (is.upholds.0, part_swept (is_kept old.places) new is.upholds.1);
    files = tt;
    lists = is.lists;
    room = is.room;
    cause = record {
      due = tt;
      barred = λ bars. absurd bars;
      undone = λ many. (let was = is.cause.undone many in record { as_before = record { places = was.as_before.places; tablets = was.as_before.tablets }; name = was.name; files = was.files ∙ same });
    };
    faults = told_after faults (Refused e) old mid new told is.faults;
  }

  done_beside : (r : Result ℕ Refusal) (new : ClusterState F)
      → IfOk r (λ count. (named : Option (List PlaceView)) → AreNamedIn (contents files) named → IsSwept (is_kept_beside named old.places) contents count mid new)
      → IfOk r (λ count. (named : Option (List PlaceView)) → AreNamedIn (contents old.files) named → IsSwept (is_kept_beside named old.places) contents count old new)
  done_beside (Ok count) new done = λ named is. all_swept (is_kept_beside named old.places) count new (done named (named_still named is))
    where
      named_still : (named : Option (List PlaceView)) → AreNamedIn (contents old.files) named → AreNamedIn (contents files) named
      named_still named is = subst (λ (o : Option Contents). AreNamedIn o named) (sym same) is
  done_beside (Err e) new done = tt

  beside_behind : (r : Result ℕ Refusal) (new : ClusterState F) → SweepsBesideRoot contents faults r mid new → SweepsBesideRoot contents faults r old new
  beside_behind r new is = record {
    still = λ holds. is.still (mid_holds holds);
    shown = λ holds. is.shown (mid_holds holds) ∙ mid_shown;
    done = done_beside r new is.done;
    part = λ named at. part_swept (is_kept_beside named old.places) new (is.part named (subst (λ (o : Option Contents). AreNamedIn o named) (sym same) at));
    rest = is.rest;
    merge = given_twice old.merge merge new.merge given is.merge;
    refusal = is.refusal;
    damaged = λ wrong. subst (λ (o : Option Contents). IfSome o HasBadRoot) same (is.damaged wrong);
    reason = subst (λ (n : ℕ). HasReason n (faults new.files) r) told is.reason;
  }

-- a sweep behind the giving up, told from before it
module _ {F : Type 0} (contents : F → Option Contents) (faults : F → ℕ) (old mid new : ClusterState F) (rest : mid ≡ record old { files = mid.files; merge = mid.merge }) (given : MayGiveUp old.merge mid.merge)
    (same : contents mid.files ≡ contents old.files) (told : faults mid.files ≡ faults old.files) (r : Result ℕ Refusal) where
  pub given_swept : IsOutcome contents faults command.Sweep (swept_of r) mid new → IsOutcome contents faults command.Sweep (swept_of r) old new
  given_swept is = swept_behind contents faults old mid.files mid.merge given same told r new (subst (λ (state : ClusterState F). IsOutcome contents faults command.Sweep (swept_of r) state new) rest is)

  pub given_beside : SweepsBesideRoot contents faults r mid new → SweepsBesideRoot contents faults r old new
  given_beside is = beside_behind contents faults old mid.files mid.merge given same told r new (subst (λ (state : ClusterState F). SweepsBesideRoot contents faults r state new) rest is)
