-- Merges of the tablets' newest files, in order.
use Rattle.std.proofs.Common.{◌≡◌, ◌<◌, ◌≤◌, ◌+◌, ℕ, List, ◌∷◌, length, drop, Option, Some, Result, Ok, Err, refl, sym, ap, ◌∙◌, subst, slice_get}
use Rattle.cell_key.specs.declared.refusals.Refusal.{Refusal}
use Rattle.file_store.specs.Store.{Contents}
use Rattle.tablet.specs.MergePolicies.{IsMergeCount}
use Rattle.tablet.specs.declared.merge_policy.MergePolicy.{MergePolicy}
use Rattle.row_atomic.specs.Changes.{Holds, Numbered}
use Rattle.row_atomic.specs.Clusters.{ClusterState}
use Rattle.row_atomic.specs.Commands.{IsOutcome, cells_shown, done_of}
use Rattle.row_atomic.specs.Flushes.{KeepsShown, MergesEach, MergesMany, MergesNewest, numbers_of}
use Rattle.row_atomic.specs.declared.commands.Command.TheVariants as command
use Rattle.row_atomic.proofs.Flushes.{from_there, keeps_on, keeps_start, none_from, same_numbers, within_kept}

module _ {F : Type 0} (contents : F → Option Contents) (faults : F → ℕ) where
  -- a merge keeps the state
  pub keeps_merged : (now after : ClusterState F) (n count : ℕ) (r : Result (Unit {0}) Refusal) → IsOutcome contents faults (command.Merge n count) (done_of r) now after → KeepsShown contents faults now after
  keeps_merged now after n count r is = record {
    kept = λ holds. (is.still holds, shown r is holds);
    spots = is.files.1;
    limit = is.files.0.limit;
    later = is.faults.later;
  }
    where
      shown : (r : Result (Unit {0}) Refusal) → IsOutcome contents faults (command.Merge n count) (done_of r) now after → Holds contents now → cells_shown contents after ≡ cells_shown contents now
      shown (Ok _) is holds = is.answers holds
      shown (Err refusal) is holds = (is.answers holds).1

-- The tablets before the index are done: what is done in the others completes the merges of all.
pub record IsReached {F : Type 0} (contents : F → Option Contents) (faults : F → ℕ) (policy : MergePolicy) (start now : ClusterState F) (i : ℕ) : Type 0 where
  pub keeps : KeepsShown contents faults start now
  pub completes : (state : ClusterState F) → MergesEach contents faults policy now (drop i (numbers_of start.places)) state → MergesMany contents faults policy start state

module _ {F : Type 0} (contents : F → Option Contents) (faults : F → ℕ) (policy : MergePolicy) (start : ClusterState F) where
  pub at_start : IsReached contents faults policy start start 0
  at_start = record { keeps = keeps_start contents faults start; completes = λ state rest. rest }

  module _ (now : ClusterState F) (i : ℕ) (reached : IsReached contents faults policy start now i) where
    pub within_now : i < length start.places → i < length now.places
    within_now within = within_kept contents faults start now i reached.keeps within

    pub at_end : length start.places ≤ i → MergesMany contents faults policy start now
    at_end past = reached.completes now (subst (λ (ns : List ℕ). MergesEach contents faults policy now ns now) (sym (none_from start.places i past)) refl)

    pub after_one : (n : ℕ) (after : ClusterState F) → slice_get (numbers_of now.places) i ≡ Some n
        → (count : ℕ) × Numbered (λ t. IsMergeCount policy t count) n now.tablets × MergesNewest contents faults n count now after
        → KeepsShown contents faults now after → IsReached contents faults policy start after (i + 1)
    after_one n after there (count, such, merges) keeps =
        let first : drop i (numbers_of start.places) ≡ n ∷ drop (i + 1) (numbers_of start.places) =
        from_there (numbers_of start.places) i n (ap (λ (ns : List ℕ). slice_get ns i) (sym (same_numbers start.places now.places reached.keeps.spots)) ∙ there) in
        record {
          keeps = keeps_on contents faults start now after reached.keeps keeps;
          completes = λ state rest. reached.completes state (subst (λ (ns : List ℕ). MergesEach contents faults policy now ns state) (sym first) (after, count, such, merges, rest));
        }
