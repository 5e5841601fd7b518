-- Compactions: the lists they read, the files they write, and their refusals.
use Rattle.std.specs.Prelude.{◌≡◌, ◌≢◌, ◌⊎◌, ◌≤◌, ◌<◌, ◌+◌, ◌^◌, ◌↔◌, ℕ, IfSome, IsSomeAnd, IsErrOf, Result, Bool, true, false, nat_lt, Option, Some, None, List, [], ◌∷◌, map, take, drop, length}
use Rattle.std.specs.List.{AllByRecursion}
use Rattle.cell_key.specs.Entries.{Entry}
use Rattle.cell_key.specs.declared.refusals.Refusal.{Refusal}
use Rattle.cell_key.specs.declared.refusals.Refusal.TheVariants as refused
use Rattle.file_store.specs.Store.{Contents, KeepsOthers}
use Rattle.sorted_file.specs.Grammar.{FitsIn}
use Rattle.sorted_file.specs.File.{IsOpen, listed}
use Rattle.sorted_file.specs.Source.{IsWriteRefusal}
use Rattle.sorted_file.specs.declared.file.SortedFile.{SortedFile}
use Rattle.compaction.specs.Passing.{MergeBreaks, MergesNoList, MergesTooMuch}
use Rattle.compaction.specs.Writing.{written}
use Rattle.compaction.specs.declared.bounded.Bounded.{Bounded}
use Rattle.compaction.specs.declared.input.Input.{Input}
use Rattle.tablet.specs.Ranges.{lower_fence, seen, upper_fence}
use Rattle.tablet.specs.Sources.{lent_by, AreSourcesOf, Breaks, IsOpenIn, IsReadThrough, Steps}
use Rattle.tablet.specs.Views.{files_of, flushed, memory_of, names_of, range_of, with_name, IsUnchanged, MakesLists, MayBeFlushed, UsesName}
use Rattle.tablet.specs.declared.tablet.Tablet.{Tablet}
use Rattle.tablet.specs.declared.ranges.RowRange.{RowRange}
use Rattle.tablet.specs.declared.compactions.Compaction.{Compaction}
use Rattle.tablet.specs.declared.compactions.Compaction.TheVariants.{Minor, Merge, Major}

-- the lists that a compaction merges: the memtable, the newest files, or all
abbrev pub inputs_of : Compaction → List Entry → List (List Entry) → List (List Entry)
inputs_of Minor memory lists = memory ∷ []
inputs_of (Merge count) memory lists = take count lists
inputs_of Major memory lists = memory ∷ lists

-- whether it keeps erasures: if there are older files that it doesn't read
abbrev pub keeps_erasures : Compaction → ℕ → Bool
keeps_erasures Minor files = true
keeps_erasures (Merge count) files = nat_lt count files
keeps_erasures Major files = false

-- there are enough files for a merge of `count`
abbrev pub HasAsMany : Compaction → ℕ → Type 0
HasAsMany Minor files = Unit {0}
HasAsMany (Merge count) files = count ≤ files
HasAsMany Major files = Unit {0}

-- the files that it reads are open over this disk; a minor compaction reads none
abbrev pub ReadsOpen : Compaction → Option Contents → Tablet → Type 0
ReadsOpen Minor disk t = Unit {0}
ReadsOpen (Merge count) disk t = AllByRecursion (IsOpenIn disk) (take count (files_of t))
ReadsOpen Major disk t = AllByRecursion (IsOpenIn disk) (files_of t)

abbrev pub files_read : Compaction → List SortedFile → List SortedFile
files_read Minor files = []
files_read (Merge count) files = take count files
files_read Major files = files

-- it read its files to the end, within the tablet's rows
abbrev pub ReadsThrough : Compaction → Option Contents → Tablet → Type 0
ReadsThrough compaction disk t =
    AllByRecursion (IsReadThrough disk (lower_fence (range_of t)) (upper_fence (range_of t)))
    (files_read compaction (files_of t))

-- the memtable, if it is read
abbrev pub memory_read : Compaction → List Entry → Option (List Entry)
memory_read Minor memory = Some memory
memory_read (Merge count) memory = None
memory_read Major memory = Some memory

-- Sources of everything that it reads, within the tablet's rows, at their starts.
abbrev pub AreRead : Compaction → Tablet → List (Bounded Input) → Type 0
AreRead compaction t =
    AreSourcesOf (lower_fence (range_of t)) (upper_fence (range_of t))
    (memory_read compaction (memory_of t)) (files_read compaction (files_of t))

-- The entries that it reads from the files as they are now don't fit in a file within the limit.
pub record ReadsTooMuch (compaction : Compaction) (limit : ℕ) (disk : Option Contents)
    (t : Tablet) : Type 0 where
  pub sources : List (Bounded Input)
  pub of : AreRead compaction t sources
  pub large : MergesTooMuch (Steps disk) lent_by (keeps_erasures compaction (length (files_of t)))
      limit sources

-- Over this disk the compaction's input can't be read to its end, or is out of order.
pub record IsUnreadable (compaction : Compaction) (disk : Option Contents) (t : Tablet)
    : Type 0 where
  pub sources : List (Bounded Input)
  pub of : AreRead compaction t sources
  pub damage : MergeBreaks (Steps disk) lent_by (Breaks disk) sources
      ⊎ MergesNoList (Steps disk) lent_by (keeps_erasures compaction (length (files_of t))) sources

-- the entries that it writes
abbrev pub compacted : Compaction → RowRange → List Entry → List (List Entry) → List Entry
compacted compaction range memory lists =
    written (keeps_erasures compaction (length lists))
    (map (seen range) (inputs_of compaction memory lists))

-- the entries that it writes for a tablet over these files
abbrev pub compacted_of : Compaction → Contents → Tablet → List Entry
compacted_of compaction m t =
    compacted compaction (range_of t) (memory_of t) (map (listed m) (files_of t))

-- a tablet's lists after a compaction: the memtable's, then its files', the newest first
abbrev pub lists_after : Compaction → RowRange → List Entry → List (List Entry) → List (List Entry)
lists_after Minor range memory lists = [] ∷ flushed range memory lists
lists_after (Merge count) range memory lists =
    memory ∷ compacted (Merge count) range memory lists ∷ drop count lists
lists_after Major range memory lists = [] ∷ compacted Major range memory lists ∷ []

-- A compaction, with the disk before and after it, turned the lists of tablet `t` into these of `u`.
abbrev pub Compacts : Compaction → Option Contents → ℕ → Option Contents → Tablet → Tablet → Type 0
Compacts compaction old before new t u =
    MakesLists old before t new u (lists_after compaction (range_of t))

-- the file is open and lists these entries
pub record IsNewFile (n : Contents) (file : SortedFile) (es : List Entry) : Type 0 where
  pub opened : IsOpen n file
  pub lists : listed n file ≡ es

-- A call wrote nothing and left the next name, or used it up. The next name stays at most 2 ^ 63, the first one that no
-- file can have.
pub record TakesName (old : Option Contents) (before : ℕ) (new : Option Contents)
    (after : ℕ) : Type 0 where
  pub uses : UsesName old before new after
  pub within : before ≤ 2 ^ 63 → after ≤ 2 ^ 63

-- The next name was left and is used up, and the files under other names are as they were.
pub record WritesNext (old : Option Contents) (before : ℕ) (new : Option Contents)
    (after : ℕ) : Type 0 where
  pub left : before < 2 ^ 63
  pub used : after ≡ before + 1
  pub others : KeepsOthers before old new

-- the names of a tablet's files after a compaction that wrote a file of this name
abbrev pub names_after : Compaction → ℕ → List ℕ → List ℕ
names_after Minor name names = name ∷ names
names_after (Merge count) name names = name ∷ drop count names
names_after Major name names = name ∷ []

-- its files after a compaction that wrote this file
abbrev pub files_after : Compaction → SortedFile → List SortedFile → List SortedFile
files_after Minor file files = file ∷ files
files_after (Merge count) file files = file ∷ drop count files
files_after Major file files = file ∷ []

-- The tablet's files are those after the compaction, with a new file of these entries.
pub record HasPut (compaction : Compaction) (n : Contents) (es : List Entry)
    (old new : Tablet) : Type 0 where
  pub file : SortedFile
  pub files : files_of new ≡ files_after compaction file (files_of old)
  pub written : IsNewFile n file es

-- the memtable's entries after a compaction
abbrev pub memory_after : Compaction → List Entry → List Entry
memory_after Minor memory = []
memory_after (Merge count) memory = memory
memory_after Major memory = []

-- A compaction that reads files succeeded: the next name was taken for a file within the limit, which now replaces its
-- inputs. It read its files to the end; if they were open, the new file has their merged entries, whatever other files
-- hold.
pub record Replaces (compaction : Compaction) (file_limit : ℕ) (disk : Option Contents)
    (before : ℕ) (now : Option Contents) (after : ℕ) (old new : Tablet) : Type 0 where
  pub names : names_of new ≡ names_after compaction before (names_of old)
  pub memory : memory_of new ≡ memory_after compaction (memory_of old)
  pub left : before < 2 ^ 63
  pub used : after ≡ before + 1
  pub read : ReadsThrough compaction disk old
  pub fits : IfSome disk (λ m.
      ReadsOpen compaction (Some m) old → FitsIn file_limit (compacted_of compaction m old))
  pub put : IfSome disk (λ m. ReadsOpen compaction (Some m) old
      → IsSomeAnd now (λ n. HasPut compaction n (compacted_of compaction m old) old new))

-- A minor compaction with entries to write had room for one more file, and took the next name for a file within the
-- limit.
pub record WritesMemory (file_limit before after : ℕ) (t : Tablet) : Type 0 where
  pub room : length (names_of t) < 64
  pub left : before < 2 ^ 63
  pub used : after ≡ before + 1
  pub fits : FitsIn file_limit (seen (range_of t) (memory_of t))

-- A minor compaction succeeded: the memtable is empty, and its entries are in a new first file, whatever the other
-- files hold.
pub record Flushes (file_limit : ℕ) (disk : Option Contents) (before : ℕ) (now : Option Contents)
    (after : ℕ) (old new : Tablet) : Type 0 where
  pub names : names_of new ≡ with_name before (memory_of old) (names_of old)
  pub memory : memory_of new ≡ []
  pub written : memory_of old ≢ [] → WritesMemory file_limit before after old
  pub put : memory_of old ≢ [] → IfSome disk (λ m.
      IsSomeAnd now (λ n. HasPut Minor n (seen (range_of old) (memory_of old)) old new))

-- Nothing was done: the tablet, the next name and the files are what they were.
abbrev pub IsUntouched : Option Contents → ℕ → Option Contents → ℕ → Tablet → Tablet → Type 0
IsUntouched disk before now after old new =
    IsUnchanged old new × ((after ≡ before) × (now ≡ disk))

-- A call is refused in this way exactly for this cause, whatever else may fail, and before it does
-- anything.
pub record IsRefusedFirst {T : Type 0} (result : Result T Refusal) (refusal : Refusal)
    (cause : Type 0) (disk : Option Contents) (before : ℕ) (now : Option Contents) (after : ℕ)
    (old new : Tablet) : Type 0 where
  pub exactly : IsErrOf result refusal ↔ cause
  pub untouched : IsErrOf result refusal → IsUntouched disk before now after old new

-- its memtable has entries to write, and there are 64 files already
abbrev pub NeedsTooManyFiles : Tablet → Type 0
NeedsTooManyFiles t = (memory_of t ≢ []) × (64 ≤ length (names_of t))

-- A refused call that begins with a minor compaction left the tablet unchanged, or did only the compaction.
pub record LeavesFlushed (before : ℕ) (old new : Tablet) : Type 0 where
  pub range : range_of new ≡ range_of old
  pub empty : memory_of old ≡ [] → IsUnchanged old new
  pub may : MayBeFlushed before old new

-- the refusals of writing a new file
abbrev pub IsCompactionRefusal : Refusal → Type 0
IsCompactionRefusal refused.Exhausted = Unit {0}
IsCompactionRefusal refusal = IsWriteRefusal refusal

-- the refusals of a minor compaction, and of a merging one
abbrev pub IsMinorRefusal : Refusal → Type 0
IsMinorRefusal refused.TooManyFiles = Unit {0}
IsMinorRefusal refusal = IsCompactionRefusal refusal

abbrev pub IsMergeRefusal : Refusal → Type 0
IsMergeRefusal refused.BadCount = Unit {0}
IsMergeRefusal refusal = IsCompactionRefusal refusal
