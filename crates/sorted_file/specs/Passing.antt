-- The entries that a source passes, which are in the present bytes of the files, whatever the source stands for.
use Rattle.std.specs.Prelude.{◌≡◌, ℕ, List, [], ◌∷◌, Option, Some, None}
use Rattle.cell_key.specs.Entries.{Entry, IsEntryList}
use Rattle.sorted_file.specs.Grammar.{FitsIn, IsFile}
use Rattle.sorted_file.specs.declared.format.Format.TheVariants.{Two}

-- Step by step a source passes these entries, and stops at the last of them.
pub data PassesOver {S : Type 0} (steps : S → S → Type 0) (lent : S → Option Entry)
    : S → List Entry → S → Type 0 where
  passes_none : {s : S} → PassesOver steps lent s [] s
  passes_one : {s t u : S} {e : Entry} {es : List Entry} → steps s t → lent t ≡ Some e
      → PassesOver steps lent t es u → PassesOver steps lent s (e ∷ es) u

module _ {S : Type 0} (steps : S → S → Type 0) (lent : S → Option Entry) where
  -- a source passes these entries, and then ends
  pub record EndsAfter (es : List Entry) (s : S) : Type 0 where
    pub last : S
    pub passes : PassesOver steps lent s es last
    pub end : S
    pub step : steps last end
    pub none : lent end ≡ None

  -- the bytes are the file of the entries that a source passes up to its end
  pub record IsFileOf (s : S) (image : List ℕ) : Type 0 where
    pub entries : List Entry
    pub all : EndsAfter entries s
    pub form : IsFile Two entries image

  -- a source passes entries, perhaps not all, that have no file within the limit
  pub record PassesTooMuch (limit : ℕ) (s : S) : Type 0 where
    pub entries : List Entry
    pub last : S
    pub passes : PassesOver steps lent s entries last
    pub large : ¬ FitsIn limit entries

  -- a source passes entries, perhaps not all, that are no entry list
  pub record PassesNoList (s : S) : Type 0 where
    pub entries : List Entry
    pub last : S
    pub passes : PassesOver steps lent s entries last
    pub none : ¬ IsEntryList entries

  -- a source passes entries, perhaps none, and breaks off after them
  pub record BreaksAfter (breaks : S → Type 0) (s : S) : Type 0 where
    pub entries : List Entry
    pub last : S
    pub passes : PassesOver steps lent s entries last
    pub here : breaks last
