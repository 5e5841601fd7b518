-- Opening a cluster from its files.
use Rattle.std.specs.Prelude.{◌≡◌, ◌⊎◌, ℕ, zero, suc, List, [], ◌∷◌, length, Option, None, Some, Result, Err, ⊤}
use Rattle.std.specs.List.{AllByRecursion}
use Rattle.std.specs.FinMap.{get}
use Rattle.cell_key.specs.Cells.{Cells}
use Rattle.cell_key.specs.declared.refusals.Refusal.{Refusal}
use Rattle.file_store.specs.Store.{Contents}
use Rattle.metadata_table.specs.Places.{PlaceView}
use Rattle.metadata_table.specs.Roots.{IsNoRoot, IsRoot, IsRootWith, RootView, file_names, lengths_of, root_of}
use Rattle.metadata_table.specs.declared.root.Root.{Root}
use Rattle.metadata_table.specs.Table.{first_place}
use Rattle.sorted_file.specs.File.{HasFile}
use Rattle.tablet.specs.Views.{names_of, range_of}
use Rattle.tablet.specs.declared.tablet.Tablet.{Tablet}
use Rattle.row_atomic.specs.Changes.{Holds, IsEmptied}
use Rattle.row_atomic.specs.Clusters.{ArePlaced, ClusterState, IsFirstTablet}
use Rattle.row_atomic.specs.Commands.{cells_shown}
use Rattle.row_atomic.specs.Roots.{AreMeasured, AreOpened, KeepsRoot, root_at, root_name}

-- ---- damage

-- A file named in the places is missing, or is not the file of an entry list.
abbrev pub LacksFile : Contents → List PlaceView → Type 0
LacksFile m places = ¬ AllByRecursion (λ p. AllByRecursion (HasFile m) p.files) places

-- the root file exists but is not a root
abbrev pub HasBadRoot : Contents → Type 0
HasBadRoot m = (image : List ℕ) × (get m root_name ≡ Some image) × IsNoRoot image

-- The root file exists but is not a root, or it names such a file, or a length in it differs from its file's.
pub data IsDamaged (m : Contents) : Type 0 where
  no_root : (image : List ℕ) → get m root_name ≡ Some image → IsNoRoot image → IsDamaged m
  no_file : (image : List ℕ) (root : RootView) → get m root_name ≡ Some image → IsRoot root image
      → LacksFile m root.places → IsDamaged m
  no_length : (image : List ℕ) (root : RootView) (lengths : List ℕ) → get m root_name ≡ Some image
      → IsRootWith root lengths image → ¬ AreMeasured m (file_names root.places) lengths
      → IsDamaged m

-- ---- the parts of an opening

-- a root's content, with the lengths of its files
abbrev pub told_of : Root → RootView × List ℕ
told_of root = (root_of root, lengths_of root)

-- there are no lengths, or one for each file
abbrev pub AreCounted : List PlaceView → List ℕ → Type 0
AreCounted places lengths = (lengths ≡ []) ⊎ (length lengths ≡ length (file_names places))

-- `None` without a file, else the file's root
abbrev pub FindsRoot : Option (List ℕ) → Option (RootView × List ℕ) → Type 0
FindsRoot None None = ⊤
FindsRoot (Some image) (Some found) = IsRootWith found.0 found.1 image
FindsRoot _ _ = ⊥

-- The tablet has the rows after `before`, up to the place's end, and the files of the place.
pub record FitsPlace (before : Option (List ℕ)) (p : PlaceView) (t : Tablet) : Type 0 where
  pub range : range_of t ≡ record { after = before; end = p.end }
  pub names : names_of t ≡ p.files

-- the tablet fits the place at the index, if the rows of the first place begin after `before`
abbrev pub FitsAt : Option (List ℕ) → List PlaceView → ℕ → Tablet → Type 0
FitsAt before [] i t = ⊥
FitsAt before (p ∷ ps) zero t = FitsPlace before p t
FitsAt before (p ∷ ps) (suc i) t = FitsAt p.end ps i t

-- each tablet is at the index of its number less 1, with the rows and files of its place, and no entries in memory
pub record AreLoaded (places : List PlaceView) (tablets : List Tablet) : Type 0 where
  pub placed : ArePlaced tablets None places
  pub as_many : length tablets ≡ length places
  pub emptied : AllByRecursion IsEmptied tablets

-- ---- opening

-- a new store: tablet 1 with all rows and no files, and both stamps 0
pub record IsNewStore {F : Type 0} (top floor : ℕ) (state : ClusterState F) : Type 0 where
  pub no_top : top ≡ 0
  pub no_floor : floor ≡ 0
  pub name : state.next_name ≡ 1
  pub places : state.places ≡ first_place ∷ []
  pub tablet : IsFirstTablet state.tablets

-- the cluster of the root file was opened
pub record IsOpenedOf {F : Type 0} (m : Contents) (top floor : ℕ) (image : List ℕ)
    (state : ClusterState F) : Type 0 where
  pub form : IsRoot (root_at top floor state) image
  pub measured : AreMeasured m (file_names state.places) form.lengths
  pub opened : AreOpened m state.places state.tablets

-- Without a root file it is a new store.
abbrev pub IsStore : {F : Type 0} → Contents → Option (List ℕ) → ℕ → ℕ → ClusterState F → Type 0
IsStore m None top floor state = IsNewStore top floor state
IsStore m (Some image) top floor state = IsOpenedOf m top floor image state

-- A cluster in order that agrees with the root, and shows these cells with empty memtables. Its files keep both.
pub record Reopens {F : Type 0} (contents : F → Option Contents) (root : RootView) (cells : Cells)
    (top floor : ℕ) (state : ClusterState F) : Type 0 where
  pub tells : root_at top floor state ≡ root
  pub holds : Holds contents state
  pub shows : cells_shown contents state ≡ cells
  pub emptied : AllByRecursion IsEmptied state.tablets
  pub keeps : KeepsRoot contents root cells state

-- a refusal alone, without the files handed back with it
abbrev pub refused_by : Refusal → Result (Unit {0}) Refusal
refused_by refusal = Err refusal
