-- Minor compactions of all tablets in order, and then the root.
use Rattle.std.proofs.Common.{◌≡◌, ◌<◌, ◌≤◌, ◌+◌, ℕ, List, ◌∷◌, length, drop, Option, Some, Result, Ok, Err, refl, sym, ap, ◌∙◌, subst, arith, slice_get}
use Rattle.std.proofs.lemmas.List.{length-map}
use Rattle.std.specs.Result.{IsErrAnd}
use Rattle.cell_key.specs.declared.refusals.Refusal.{Refusal}
use Rattle.file_store.specs.Store.{Contents}
use Rattle.row_atomic.specs.Clusters.{ClusterState, Spot, spot_of, spots_of}
use Rattle.row_atomic.specs.Commands.{IsOutcome, TellsFaults, done_of}
use Rattle.row_atomic.specs.Flushes.{numbers_of}
use Rattle.row_atomic.specs.Roots.{Checkpoints, FlushesEach, PutsRoot, flushed, flushes_none, flushes_one, refuses_one, unflushed}
use Rattle.row_atomic.specs.declared.commands.Command.TheVariants as command
use Rattle.row_atomic.specs.declared.commands.Outcome.{Outcome}
use Rattle.row_atomic.specs.declared.commands.Outcome.TheVariants as outcome
use Rattle.row_atomic.proofs.Flushes.{from_there, none_from, same_numbers}

pub refused_same : (r : Result (Unit {0}) Refusal) (e : Refusal) → IsErrAnd r (λ f. f ≡ e) → outcome.Refused e ≡ done_of r
refused_same (Ok x) e by = absurd by
refused_same (Err f) e by = ap (λ (x : Refusal). outcome.Refused x) (sym by)

module _ {F : Type 0} (contents : F → Option Contents) (faults : F → ℕ) where
  -- The tablets before the index are flushed: flushing the remaining ones flushes all.
  pub record IsFlushing (start now : ClusterState F) (i : ℕ) : Type 0 where
    pub spots : spots_of now ≡ spots_of start
    pub completes : (result : Outcome) (state : ClusterState F) → FlushesEach contents faults now (drop i (numbers_of start.places)) result state
        → FlushesEach contents faults start (numbers_of start.places) result state

  module _ (start : ClusterState F) where
    pub at_start : IsFlushing start start 0
    at_start = record { spots = refl; completes = λ result state rest. rest }

    module _ (now : ClusterState F) (i : ℕ) (flushing : IsFlushing start now i) where
      pub within_now : i < length start.places → i < length now.places
      within_now within =
          let olds = length-map start.places spot_of in
          let news = length-map now.places spot_of in
          let same = ap (λ (spots : List Spot). length spots) flushing.spots in
          omega arith

      pub at_end : length start.places ≤ i → FlushesEach contents faults start (numbers_of start.places) outcome.Done now
      at_end past = flushing.completes outcome.Done now (subst (λ (ns : List ℕ). FlushesEach contents faults now ns outcome.Done now) (sym (none_from start.places i past)) flushes_none)

      module _ (n : ℕ) (there : slice_get (numbers_of now.places) i ≡ Some n) where
        first : drop i (numbers_of start.places) ≡ n ∷ drop (i + 1) (numbers_of start.places)
        first = from_there (numbers_of start.places) i n (ap (λ (ns : List ℕ). slice_get ns i) (sym (same_numbers start.places now.places flushing.spots)) ∙ there)

        pub after_one : (after : ClusterState F) → IsOutcome contents faults (command.Minor n) outcome.Done now after → IsFlushing start after (i + 1)
        after_one after is = record {
          spots = is.files.1 ∙ flushing.spots;
          completes = λ result state rest. flushing.completes result state (subst (λ (ns : List ℕ). FlushesEach contents faults now ns result state) (sym first) (flushes_one is rest));
        }

        pub at_refusal : (after : ClusterState F) (r s : Result (Unit {0}) Refusal) (e : Refusal) → IsErrAnd s (λ f. f ≡ e) → IsOutcome contents faults (command.Minor n) (outcome.Refused e) now after → FlushesEach contents faults start (numbers_of start.places) (done_of s) after
        at_refusal after r s e by is =
            subst (λ (result : Outcome). FlushesEach contents faults start (numbers_of start.places) result after) (refused_same s e by)
            (flushing.completes (outcome.Refused e) after (subst (λ (ns : List ℕ). FlushesEach contents faults now ns (outcome.Refused e) after) (sym first) (refuses_one e is)))

  -- the root is put after all were flushed
  pub checkpointed : (top floor : ℕ) (old mid new : ClusterState F) (result : Outcome) → FlushesEach contents faults old (numbers_of old.places) outcome.Done mid
      → PutsRoot contents top floor mid result new.files → new ≡ record mid { files = new.files } → TellsFaults faults result mid new → Checkpoints contents faults top floor old result new
  checkpointed top floor old mid new result flushes puts rest tells =
      subst (λ (state : ClusterState F). Checkpoints contents faults top floor old result state) (sym rest)
      (flushed mid result new.files flushes puts (subst (λ (state : ClusterState F). TellsFaults faults result mid state) rest tells))

  pub not_flushed : (top floor : ℕ) (old new : ClusterState F) (r : Result (Unit {0}) Refusal) (e : Refusal) → IsErrAnd r (λ f. f ≡ e) → FlushesEach contents faults old (numbers_of old.places) (outcome.Refused e) new
      → Checkpoints contents faults top floor old (done_of r) new
  not_flushed top floor old new r e by flushes = subst (λ (result : Outcome). Checkpoints contents faults top floor old result new) (refused_same r e by) (unflushed e flushes)
