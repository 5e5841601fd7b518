-- Sweeps of files (Bigtable: the master removes files that no tablet has by mark and sweep).
use Rattle.std.specs.Prelude.{◌≡◌, ◌==◌, ◌||◌, ◌⊎◌, ℕ, Bool, not, false, List, [], ◌∷◌, length, filter, Option, Some, None, IsNone, IsSomeAnd, IfSome, option_map}
use Rattle.std.specs.List.{list_any}
use Rattle.std.specs.FinMap.{get, keys, retain_keys}
use Rattle.file_store.specs.Store.{Contents, without_file}
use Rattle.metadata_table.specs.Places.{PlaceView}
use Rattle.row_atomic.specs.Clusters.{ClusterState}
use Rattle.row_atomic.specs.MergeStates.{MayGiveUp}

-- whether a file must stay: it is the root, 0, or belongs to some tablet
abbrev pub is_kept : List PlaceView → ℕ → Bool
is_kept places name = name == 0 || list_any (λ p. list_any (λ file. file == name) p.files) places

-- the same, beside the places of a root, if there are any: files that they have must stay too
abbrev pub is_kept_beside : Option (List PlaceView) → List PlaceView → ℕ → Bool
is_kept_beside None places name = is_kept places name
is_kept_beside (Some named) places name = is_kept named name || is_kept places name

-- contents without the files of these names
abbrev pub without_files : List ℕ → Option Contents → Option Contents
without_files [] disk = disk
without_files (name ∷ names) disk = without_files names (without_file name disk)

-- The effects of a sweep after which these files must stay.
module _ (kept : ℕ → Bool) where
  -- the files that must stay
  abbrev pub swept : Contents → Contents
  swept m = retain_keys m kept

  -- the names that need not stay
  abbrev pub unkept : List ℕ → List ℕ
  unkept names = filter (λ name. not (kept name)) names

  -- how many files need not stay
  abbrev pub count_swept : Contents → ℕ
  count_swept m = length (unkept (keys m))

  -- If the files' bytes were known they still are, and each file is unchanged, or it was removed and need not stay.
  abbrev pub MayLackUnkept : Option Contents → Option Contents → Type 0
  MayLackUnkept None new = IsNone new
  MayLackUnkept (Some m) new =
      IsSomeAnd new (λ n. (name : ℕ)
      → (get n name ≡ get m name) ⊎ ((kept name ≡ false) × (get n name ≡ None)))

  module _ {F : Type 0} (contents : F → Option Contents) where
    -- All files that need not stay were removed, and the count is their number. A merge of such files was given up.
    -- Nothing else changed.
    pub record IsSwept (count : ℕ) (old new : ClusterState F) : Type 0 where
      pub files : contents new.files ≡ option_map swept (contents old.files)
      pub counted : IfSome (contents old.files) (λ m. count ≡ count_swept m)
      pub rest : new ≡ record old { files = new.files; merge = new.merge }
      pub merge : MayGiveUp old.merge new.merge

    -- Some files that need not stay may have been removed. A merge of such files was given up. Nothing else changed.
    pub record IsSweptInPart (old new : ClusterState F) : Type 0 where
      pub files : MayLackUnkept (contents old.files) (contents new.files)
      pub rest : new ≡ record old { files = new.files; merge = new.merge }
      pub merge : MayGiveUp old.merge new.merge
