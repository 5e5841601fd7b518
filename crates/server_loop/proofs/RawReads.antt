-- The outcome of a raw read.
use Rattle.std.proofs.Common.{arith, ◌≡◌, ◌≤◌, ℕ, List, Option, Err, IsErrOf, Global, ap, subst, sym}
use Rattle.std.specs.Prelude.{option_map}
use Rattle.std.specs.declared.vec.Vec.{Vec}
use Rattle.cell_key.specs.Cells.{IsNewest, version}
use Rattle.cell_key.specs.Faults.{HasRisen}
use Rattle.cell_key.specs.Versions.{stamped}
use Rattle.cell_key.specs.declared.keys.Qualifier.{Qualifier}
use Rattle.cell_key.specs.declared.refusals.Refusal.{Refusal}
use Rattle.cell_key.specs.declared.refusals.Refusal.TheVariants.{Damaged, Device, TooManyFiles}
use Rattle.file_store.specs.Store.{Contents}
use Rattle.metadata_table.specs.Table.{IsListed}
use Rattle.row_atomic.specs.Changes.{Holds, IsOutOfOrder, OfHolder}
use Rattle.row_atomic.specs.Clusters.{ClusterState, storage_of}
use Rattle.row_atomic.specs.Commands.{IsNoFuller, IsOutcome, cells_shown}
use Rattle.rows.specs.Refusals.{IsReadRefusal}
use Rattle.row_atomic.specs.declared.commands.Command.TheVariants as command
use Rattle.row_atomic.specs.declared.commands.Outcome.TheVariants.{Newest, Refused}

many_not_read : IsReadRefusal TooManyFiles → ⊥
many_not_read h = h

module _ {F : Type 0} (contents : F → Option Contents) (faults : F → ℕ) (row family : List ℕ) (qualifier : Qualifier) (lo hi : ℕ) where
  pub found_outcome : (found : Option (ℕ × Vec ℕ Global)) (old new : ClusterState F) → (Holds contents old → Holds contents new)
      → (Holds contents old → IsNewest (cells_shown contents old) (version row family qualifier) lo hi (option_map stamped found)) → cells_shown contents new ≡ cells_shown contents old
      → storage_of contents new ≡ storage_of contents old → IsNoFuller old new → faults new.files ≡ faults old.files
      → IsOutcome contents faults (command.Newest row family qualifier lo hi) (Newest found) old new
  found_outcome found old new still is kept storage room told = record {
    still = still;
    answers = λ order. (is order, kept);
    upholds = storage;
    files = tt;
    lists = λ _ name l. subst (IsListed name) (sym (ap (λ s. s.places) storage)) l;
    room = room;
    cause = tt;
    faults = record { later = omega (arith, told); device = λ is. cc; told = λ _. told };
  }

  pub refused_outcome : {A : Type 0} (e : Refusal) (old new : ClusterState F) → (Holds contents old → Holds contents new)
      → cells_shown contents new ≡ cells_shown contents old → (Holds contents old → ¬ (e ≡ Damaged)) → (IsErrOf {T = A} (Err e) Damaged → OfHolder (IsOutOfOrder (contents old.files)) row old.places old.tablets)
      → storage_of contents new ≡ storage_of contents old → IsNoFuller old new → IsReadRefusal e
      → faults old.files ≤ faults new.files → (IsErrOf {T = A} (Err e) Device → HasRisen (faults old.files) (faults new.files)) → (¬ IsErrOf {T = A} (Err e) Device → faults new.files ≡ faults old.files)
      → IsOutcome contents faults (command.Newest row family qualifier lo hi) (Refused e) old new
  refused_outcome e old new still kept whole damaged storage room refusal later device told = record {
    still = still;
    answers = λ order. (whole order, kept);
    upholds = (refusal, storage);
    files = tt;
    lists = λ _ name l. subst (IsListed name) (sym (ap (λ s. s.places) storage)) l;
    room = room;
    cause = record { due = λ is. damaged (ap (λ (r : Refusal). Err r) is); barred = λ bars. absurd bars; undone = λ is. absurd (many_not_read (subst IsReadRefusal is refusal)) };
    faults = record { later = later; device = λ is. device (let that : e ≡ Device = cc in ap (λ (r : Refusal). Err r) that); told = λ other. told (λ err. other (let that : e ≡ Device = cc in ap (λ (r : Refusal). Refused r) that)) };
  }
