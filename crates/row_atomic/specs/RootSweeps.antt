-- Sweeps that leave the files of the root, too.
use Rattle.std.specs.Prelude.{◌≡◌, ℕ, List, Option, Some, None, Result, IfErr, IfOk, IfSome, IsErrOf, ⊤}
use Rattle.std.specs.FinMap.{get}
use Rattle.cell_key.specs.Cells.{Cells}
use Rattle.cell_key.specs.Faults.{HasReason}
use Rattle.cell_key.specs.declared.refusals.Refusal.{Refusal}
use Rattle.cell_key.specs.declared.refusals.Refusal.TheVariants.{Damaged}
use Rattle.file_store.specs.Store.{Contents}
use Rattle.metadata_table.specs.Places.{PlaceView}
use Rattle.metadata_table.specs.Roots.{IsRoot, RootView}
use Rattle.rows.specs.Refusals.{IsReadRefusal}
use Rattle.row_atomic.specs.Changes.{Holds}
use Rattle.row_atomic.specs.Clusters.{ClusterState}
use Rattle.row_atomic.specs.Commands.{cells_shown}
use Rattle.row_atomic.specs.MergeStates.{MayGiveUp}
use Rattle.row_atomic.specs.Open.{HasBadRoot}
use Rattle.row_atomic.specs.Roots.{HasRoot, root_name}
use Rattle.row_atomic.specs.Sweeps.{IsSwept, IsSweptInPart, is_kept_beside}

-- the places of a root file; none without one
abbrev pub AreRootPlaces : Option (List ℕ) → Option (List PlaceView) → Type 0
AreRootPlaces None named = named ≡ None
AreRootPlaces (Some image) named =
    (root : RootView) × IsRoot root image × (named ≡ Some root.places)

-- the places of the root in these files, if their bytes are known
abbrev pub AreNamedIn : Option Contents → Option (List PlaceView) → Type 0
AreNamedIn None named = ⊤
AreNamedIn (Some m) named = AreRootPlaces (get m root_name) named

-- The files that neither a tablet nor the root file has were removed, and counted; if it was refused, perhaps some of
-- them. Nothing else changed, and no cell.
pub record SweepsBesideRoot {F : Type 0} (contents : F → Option Contents) (faults : F → ℕ)
    (result : Result ℕ Refusal) (old new : ClusterState F) : Type 0 where
  pub still : Holds contents old → Holds contents new
  pub shown : Holds contents old → cells_shown contents new ≡ cells_shown contents old
  pub done : IfOk result (λ count. (named : Option (List PlaceView))
      → AreNamedIn (contents old.files) named
      → IsSwept (is_kept_beside named old.places) contents count old new)
  pub part : (named : Option (List PlaceView)) → AreNamedIn (contents old.files) named
      → IsSweptInPart (is_kept_beside named old.places) contents old new
  pub rest : new ≡ record old { files = new.files; merge = new.merge }
  pub merge : MayGiveUp old.merge new.merge
  pub refusal : IfErr result IsReadRefusal
  pub damaged : IsErrOf result Damaged → IfSome (contents old.files) HasBadRoot
  pub reason : HasReason (faults old.files) (faults new.files) result

-- Such a sweep leaves the root and its cells in the files, and Damaged isn't answered over a root.
pub record RootOutlastsSweeps {F : Type 0} (contents : F → Option Contents) (faults : F → ℕ)
    : Type 0 where
  pub stays : (root : RootView) (cells : Cells) (result : Result ℕ Refusal)
      (old new : ClusterState F) → SweepsBesideRoot contents faults result old new
      → HasRoot contents root cells old → HasRoot contents root cells new
  pub whole : (root : RootView) (cells : Cells) (result : Result ℕ Refusal)
      (old new : ClusterState F) → SweepsBesideRoot contents faults result old new
      → HasRoot contents root cells old → ¬ IsErrOf result Damaged
