-- The entries that are written of several lists.
use Rattle.std.proofs.Common.{◌≡◌, Bool, true, false}
use Rattle.std.specs.Prelude.{ℕ, List, [], ◌∷◌, Option, Some, None, IfSome, IsSomeAnd}
use Rattle.std.specs.List.{AllByRecursion}
use Rattle.cell_key.specs.Entries.{Entry, IsEntryList, merged, entry_of_key, first_naming, value_of}
pub use Rattle.sorted_file.specs.Written.{is_written, only_written}

abbrev pub is_written_lent : Bool → Option Entry → Bool
is_written_lent keep_erasures None = false
is_written_lent keep_erasures (Some entry) = is_written keep_erasures entry

-- the written entries of lists, newest first
abbrev pub written : Bool → List (List Entry) → List Entry
written keep_erasures lists = only_written keep_erasures (merged lists)

-- the written entries of entry lists are an entry list
abbrev pub WritesEntryLists : Type 0
WritesEntryLists =
    (keep_erasures : Bool) (lists : List (List Entry)) → AllByRecursion IsEntryList lists
    → IsEntryList (written keep_erasures lists)

-- a single entry list is written unchanged, if erasures are kept
abbrev pub KeepsOneList : Type 0
KeepsOneList = (es : List Entry) → IsEntryList es → written true (es ∷ []) ≡ es

-- For each text the first list with an entry of it decides: its value is written, and its erasure too if erasures are
-- kept.
abbrev pub NamesFirst : Type 0
NamesFirst =
    (lists : List (List Entry)) (name : List ℕ)
    → (entry_of_key (written true lists) name ≡ first_naming lists name)
    × ((keep_erasures : Bool) → value_of (entry_of_key (written keep_erasures lists) name)
    ≡ value_of (first_naming lists name))

-- a source makes steps, each but the last to an entry that isn't written
pub data StepsOn {S : Type 0} (keep_erasures : Bool) (steps : S → S → Type 0)
    (lent : S → Option Entry) : S → S → Type 0 where
  steps_once : {s t : S} → steps s t → IfSome (lent t) (λ e. is_written keep_erasures e ≡ true)
      → StepsOn keep_erasures steps lent s t
  steps_past : {s t u : S} → steps s t
      → IsSomeAnd (lent t) (λ e. is_written keep_erasures e ≡ false)
      → StepsOn keep_erasures steps lent t u → StepsOn keep_erasures steps lent s u

-- or it breaks off on the way
pub data BreaksOn {S : Type 0} (keep_erasures : Bool) (steps : S → S → Type 0)
    (lent : S → Option Entry) (breaks : S → Type 0) : S → Type 0 where
  breaks_here : {s : S} → breaks s → BreaksOn keep_erasures steps lent breaks s
  breaks_past : {s t : S} → steps s t → IsSomeAnd (lent t) (λ e. is_written keep_erasures e ≡ false)
      → BreaksOn keep_erasures steps lent breaks t → BreaksOn keep_erasures steps lent breaks s
