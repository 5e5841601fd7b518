-- Files that are written in steps.
use Rattle.std.specs.Prelude.{◌≡◌, ◌+◌, ◌<◌, ◌≤◌, ℕ, Bool, List, [], ◌∷◌, ◌++◌, Option, filter, length, sum_by, unwrap_or}
use Rattle.std.specs.Ordering.{is_lt}
use Rattle.cell_key.specs.Keys.{byte_cmp}
use Rattle.cell_key.specs.Entries.{Entry}
use Rattle.sorted_file.specs.Builder.{HasClosed, IsReady, built}
use Rattle.sorted_file.specs.Passing.{EndsAfter, PassesOver}
use Rattle.sorted_file.specs.Written.{only_written}
use Rattle.sorted_file.specs.declared.partial_file.PartialFile.{PartialFile}

-- its name, whether its erasures are written, the most bytes that it may have, and the text from which it goes on
abbrev pub target_of : {W : Type 0} → PartialFile W → ℕ
target_of file = file.name

abbrev pub keeps_erasures : {W : Type 0} → PartialFile W → Bool
keeps_erasures file = file.keep_erasures

abbrev pub limit_of : {W : Type 0} → PartialFile W → ℕ
limit_of file = file.builder.opening.size

abbrev pub next_of : {W : Type 0} → PartialFile W → List ℕ
next_of file = file.next.items

-- the entries that it has so far
abbrev pub entries_of : {W : Type 0} → PartialFile W → List Entry
entries_of file = built file.builder

-- the entries whose texts are below this one
abbrev pub entries_below : List ℕ → List Entry → List Entry
entries_below name es = filter (λ entry. is_lt (byte_cmp entry.0 name)) es

-- the least text above this one
abbrev pub next_text : List ℕ → List ℕ
next_text name = name ++ 0 ∷ []

-- how many bytes an entry's text and value have
abbrev pub entry_size : Entry → ℕ
entry_size entry = length entry.0 + length (unwrap_or entry.1 [])

-- It can go on: no call on it has failed.
pub record CanGoOn {W : Type 0} (has : W → List ℕ → Type 0) (writes_to : W → ℕ)
    (file : PartialFile W) : Type 0 where
  pub ready : IsReady file.builder
  pub closed : HasClosed has file.writing file.builder
  pub named : writes_to file.writing ≡ file.name

-- Of these entries it has those to be written below the text from which it goes on, and no others.
abbrev pub IsUnderWay : {W : Type 0} → List Entry → PartialFile W → Type 0
IsUnderWay whole file =
    built file.builder ≡ only_written file.keep_erasures (entries_below file.next.items whole)

-- of these entries it has all to be written
abbrev pub IsWhole : {W : Type 0} → List Entry → PartialFile W → Type 0
IsWhole whole file = built file.builder ≡ only_written file.keep_erasures whole

module _ {S : Type 0} (steps : S → S → Type 0) (lent : S → Option Entry) where
  -- A source passes entries of at least this many bytes, and without the last of them of fewer. The next text is the
  -- least above the last entry's.
  pub record PassesBudget (budget : ℕ) (s t : S) (next : List ℕ) : Type 0 where
    pub passed : List Entry
    pub last : Entry
    pub passes : PassesOver steps lent s (passed ++ last ∷ []) t
    pub enough : budget ≤ sum_by entry_size (passed ++ last ∷ [])
    pub within : sum_by entry_size passed < budget
    pub behind : next ≡ next_text last.0

  -- a source passes entries of fewer bytes, and then ends
  pub record EndsWithin (budget : ℕ) (s : S) : Type 0 where
    pub passed : List Entry
    pub all : EndsAfter steps lent passed s
    pub within : sum_by entry_size passed < budget

  -- The entries that a source passes are behind those that a file had, and the source has the others left.
  pub record WritesBudget (holds : S → Type 0) (remaining : S → List Entry) (keep_erasures : Bool)
      (budget : ℕ) (s t : S) (before after : List Entry) (next : List ℕ) : Type 0 where
    pub step : PassesBudget budget s t next
    pub written : after ≡ before ++ only_written keep_erasures (step.passed ++ step.last ∷ [])
    pub parts : holds s → remaining s ≡ (step.passed ++ step.last ∷ []) ++ remaining t
