-- The entries that a merge passes, whatever its sources stand for.
use Rattle.std.specs.Prelude.{◌≡◌, ◌<◌, ◌≤◌, ℕ, List, [], ◌∷◌, ◌++◌, sum_by, Bool, Option, Some, None, Contains, map}
use Rattle.std.specs.List.{AllByRecursion, AllZip}
use Rattle.cell_key.specs.Entries.{Entry, IsEntryList}
use Rattle.sorted_file.specs.Grammar.{FitsIn, IsFile}
use Rattle.sorted_file.specs.PartialFiles.{entry_size, next_text}
use Rattle.sorted_file.specs.declared.format.Format.TheVariants.{Two}
use Rattle.compaction.specs.Least.{IsLeast}
use Rattle.compaction.specs.Merging.{lent_at, IsMoved, MovesPast}
use Rattle.compaction.specs.Writing.{only_written}

module _ {S : Type 0} (steps : S → S → Type 0) (lent : S → Option Entry) where
  -- From an entry, or from none, a merge of sources passes these entries, and stops at the last of them: each time all
  -- sources at its current entry make a step, and its next entry is then the least of theirs, from the first source if
  -- several have its key.
  pub data IsMergeOf : Option Entry → List S → List Entry → Option Entry → List S → Type 0 where
    merges_none : {at : Option Entry} {sources : List S} → IsMergeOf at sources [] at sources
    merges_one : {at end : Option Entry} {sources later last : List S} {e : Entry}
        {es : List Entry} (place : ℕ) → AllZip (MovesPast steps lent at) sources later
        → IsLeast (map lent later) place → lent_at lent later place ≡ Some e
        → IsMergeOf (Some e) later es end last → IsMergeOf at sources (e ∷ es) end last

  module _ (keep_erasures : Bool) where
    -- the entries to be written, of those that a merge of sources passes, have no file within the limit
    pub record MergesTooMuch (limit : ℕ) (sources : List S) : Type 0 where
      pub entries : List Entry
      pub at : Option Entry
      pub last : List S
      pub merge : IsMergeOf None sources entries at last
      pub large : ¬ FitsIn limit (only_written keep_erasures entries)

    -- the entries to be written, of those that a merge of sources passes, are no entry list: a source isn't in order
    pub record MergesNoList (sources : List S) : Type 0 where
      pub entries : List Entry
      pub at : Option Entry
      pub last : List S
      pub merge : IsMergeOf None sources entries at last
      pub none : ¬ IsEntryList (only_written keep_erasures entries)

    -- the bytes are the file of the entries to be written, of all that a merge of sources passes
    pub record IsFileOfMerge (sources : List S) (image : List ℕ) : Type 0 where
      pub entries : List Entry
      pub at : Option Entry
      pub last : List S
      pub merge : IsMergeOf None sources entries at last
      pub ended : List S
      pub moves : AllZip (MovesPast steps lent at) last ended
      pub none : AllByRecursion (λ s. lent s ≡ None) ended
      pub form : IsFile Two (only_written keep_erasures entries) image

  -- a merge of sources passes entries, perhaps none, and a source that is to be advanced then breaks off
  pub record MergeBreaks (breaks : S → Type 0) (sources : List S) : Type 0 where
    pub entries : List Entry
    pub at : Option Entry
    pub last : List S
    pub merge : IsMergeOf None sources entries at last
    pub source : S
    pub among : Contains last source
    pub moved : IsMoved lent at source
    pub here : breaks source

  -- A merge of sources passes entries of at least this many bytes, and without the last of them of fewer. The next text
  -- is the least above the last entry's.
  pub record MergesBudget (budget : ℕ) (sources : List S) (next : List ℕ) : Type 0 where
    pub passed : List Entry
    pub last : Entry
    pub at : Option Entry
    pub later : List S
    pub merge : IsMergeOf None sources (passed ++ last ∷ []) at later
    pub enough : budget ≤ sum_by entry_size (passed ++ last ∷ [])
    pub within : sum_by entry_size passed < budget
    pub behind : next ≡ next_text last.0

  -- a merge of sources passes entries of fewer bytes, and all sources have then ended
  pub record MergesToEnd (budget : ℕ) (sources : List S) : Type 0 where
    pub passed : List Entry
    pub at : Option Entry
    pub last : List S
    pub merge : IsMergeOf None sources passed at last
    pub ended : List S
    pub moves : AllZip (MovesPast steps lent at) last ended
    pub none : AllByRecursion (λ s. lent s ≡ None) ended
    pub within : sum_by entry_size passed < budget
