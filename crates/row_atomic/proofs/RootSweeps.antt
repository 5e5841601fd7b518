-- A sweep beside the root: the places that the root file names, and the parts of the outcome.
use Rattle.std.proofs.Common.{◌≡◌, ◌⊎◌, inl, inr, ℕ, Bool, List, Option, Some, None, Result, Ok, Err, IfOk, IfErr, OnOk, IsErrOf, IsOk, IfSome, option_map, refl, sym, ap, ◌∙◌, subst}
use Rattle.std.specs.FinMap.{get}
use Rattle.cell_key.specs.Faults.{HasReason}
use Rattle.cell_key.specs.declared.refusals.Refusal.{Refusal}
use Rattle.cell_key.specs.declared.refusals.Refusal.TheVariants.{Damaged}
use Rattle.file_store.specs.Store.{Contents}
use Rattle.metadata_table.specs.Places.{PlaceView}
use Rattle.metadata_table.specs.Roots.{IsRoot, OneRoot, root_of}
use Rattle.metadata_table.specs.declared.root.Root.{Root}
use Rattle.rows.specs.Refusals.{IsReadRefusal}
use Rattle.sorted_file.specs.Source.{IsFaultRefusal}
use Rattle.row_atomic.specs.Changes.{KeepsMap}
use Rattle.row_atomic.specs.Clusters.{ClusterState}
use Rattle.row_atomic.specs.MergeStates.{MayGiveUp}
use Rattle.row_atomic.specs.Open.{FindsRoot, HasBadRoot, told_of}
use Rattle.row_atomic.specs.RootSweeps.{AreNamedIn, AreRootPlaces, SweepsBesideRoot}
use Rattle.row_atomic.specs.Roots.{root_name}
use Rattle.row_atomic.specs.Sweeps.{IsSwept, MayLackUnkept, count_swept, is_kept_beside, swept}
use Rattle.row_atomic.proofs.Sweeps.{lacks_none}

-- the places of a root that was read
abbrev pub named_by : Option Root → Option (List PlaceView)
named_by = option_map (λ root. root.table)

-- the root file names the places of the root that was read
abbrev pub Names : Option Contents → Option (List PlaceView) → Type 0
Names disk found = (named : Option (List PlaceView)) → AreNamedIn disk named → IfSome disk (λ m. named ≡ found)

names_at : OneRoot → (file : Option (List ℕ)) (root : Option Root) (named : Option (List PlaceView)) → FindsRoot file (option_map told_of root) → AreRootPlaces file named → named ≡ named_by root
names_at one None None named finds is = is
names_at one None (Some root) named finds is = absurd finds
names_at one (Some image) None named finds is = absurd finds
names_at one (Some image) (Some root) named finds is = is.2 ∙ ap (λ r. Some r.places) (one is.0 (root_of root) image is.1 (record { lengths = root.lengths.items; measured = finds }))

pub names_so : OneRoot → (disk : Option Contents) (root : Option Root) → IfSome disk (λ m. FindsRoot (get m root_name) (option_map told_of root)) → Names disk (named_by root)
names_so one None root finds = λ named is. tt
names_so one (Some m) root finds = λ named is. names_at one (get m root_name) root named finds is

module _ (places : List PlaceView) where
  abbrev keeps : Option (List PlaceView) → ℕ → Bool
  keeps named = is_kept_beside named places

  lacks_named : (disk now : Option Contents) (found named : Option (List PlaceView)) → IfSome disk (λ m. named ≡ found) → MayLackUnkept (keeps found) disk now → MayLackUnkept (keeps named) disk now
  lacks_named None now found named same lacks = lacks
  lacks_named (Some m) now found named same lacks = subst (λ (n : Option (List PlaceView)). MayLackUnkept (keeps n) (Some m) now) (sym same) lacks

  swept_named : (disk now : Option Contents) (found named : Option (List PlaceView)) → IfSome disk (λ m. named ≡ found) → now ≡ option_map (swept (keeps found)) disk → now ≡ option_map (swept (keeps named)) disk
  swept_named None now found named same is = is
  swept_named (Some m) now found named same is = subst (λ (n : Option (List PlaceView)). now ≡ option_map (swept (keeps n)) (Some m)) (sym same) is

  counted_named : (disk : Option Contents) (count : ℕ) (found named : Option (List PlaceView)) → IfSome disk (λ m. named ≡ found) → IfSome disk (λ m. count ≡ count_swept (keeps found) m) → IfSome disk (λ m. count ≡ count_swept (keeps named) m)
  counted_named None count found named same is = tt
  counted_named (Some m) count found named same is = subst (λ (n : Option (List PlaceView)). count ≡ count_swept (keeps n) m) (sym same) is

module _ {F : Type 0} (contents : F → Option Contents) (faults : F → ℕ) (old new : ClusterState F) (kept : KeepsMap contents old new) (rest : new ≡ record old { files = new.files; merge = new.merge }) (given : MayGiveUp old.merge new.merge) where
  -- files were removed
  pub sweeps_so : (found : Option (List PlaceView)) (r : Result ℕ Refusal) → Names (contents old.files) found
      → OnOk r (contents new.files ≡ option_map (swept (is_kept_beside found old.places)) (contents old.files))
      → IfOk r (λ count. IfSome (contents old.files) (λ m. count ≡ count_swept (is_kept_beside found old.places) m))
      → MayLackUnkept (is_kept_beside found old.places) (contents old.files) (contents new.files)
      → IfErr r IsReadRefusal → ¬ IsErrOf r Damaged → HasReason (faults old.files) (faults new.files) r → SweepsBesideRoot contents faults r old new
  sweeps_so found r names files counted lacks refusal sound reason = record {
    still = λ order. (kept order).0;
    shown = λ order. (kept order).1;
    done = done r files counted;
    part = λ named is. record { files = lacks_named old.places _ _ found named (names named is) lacks; rest = rest; merge = given };
    rest = rest;
    merge = given;
    refusal = refusal;
    damaged = λ is. absurd (sound is);
    reason = reason;
  }
    where
      done : (r : Result ℕ Refusal) → OnOk r (contents new.files ≡ option_map (swept (is_kept_beside found old.places)) (contents old.files))
          → IfOk r (λ count. IfSome (contents old.files) (λ m. count ≡ count_swept (is_kept_beside found old.places) m))
          → IfOk r (λ count. (named : Option (List PlaceView)) → AreNamedIn (contents old.files) named → IsSwept (is_kept_beside named old.places) contents count old new)
      done (Ok count) files counted = λ named is. record {
        files = swept_named old.places _ _ found named (names named is) files;
        counted = counted_named old.places _ count found named (names named is) counted;
        rest = rest;
        merge = given;
      }
      done (Err e) files counted = tt

-- the refusals of files are those of reading, and none is Damaged
pub fault_reads : (r : Result ℕ Refusal) → IfErr r IsFaultRefusal → IfErr r IsReadRefusal × (¬ IsErrOf r Damaged)
fault_reads (Ok count) fault = (tt, λ is. cc)
fault_reads (Err e) (inl device) = (subst IsReadRefusal (sym device) tt, λ is. (let wrong = sym is ∙ ap (λ d. Err d) device in cc))
fault_reads (Err e) (inr want) = (subst IsReadRefusal (sym want) tt, λ is. (let wrong = sym is ∙ ap (λ d. Err d) want in cc))
