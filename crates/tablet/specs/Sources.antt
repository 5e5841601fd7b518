-- The lists that a tablet reads, cut to ranges of texts, and their sources.
use Rattle.std.specs.Prelude.{◌≡◌, ℕ, List, [], ◌∷◌, ◌++◌, map, Option, Some, None, Contains}
use Rattle.std.specs.Option.{option_to_list}
use Rattle.std.specs.List.{AllZip}
use Rattle.cell_key.specs.Entries.{Entry, entries_from, merged}
use Rattle.file_store.specs.Store.{Contents}
use Rattle.sorted_file.specs.File.{IsCursorOf, IsOpen, listed}
use Rattle.sorted_file.specs.Source.{ComesToEnd}
use Rattle.sorted_file.specs.declared.cursor.FileCursor.{FileCursor}
use Rattle.sorted_file.specs.declared.file.SortedFile.{SortedFile}
use Rattle.compaction.specs.Ends.{BoundedSteps, entries_until, lent_until, source_of, end_of}
use Rattle.compaction.specs.Inputs.{InputBreaks, InputHolds, InputSteps, input_lent, input_remaining}
use Rattle.compaction.specs.declared.input.Input.{Input}
use Rattle.compaction.specs.declared.input.Input.TheVariants.{File, Memtable}
use Rattle.compaction.specs.declared.bounded.Bounded.{Bounded}

-- the entries with texts from `from` on, and below `end` if there is one
abbrev pub entries_between : List ℕ → Option (List ℕ) → List Entry → List Entry
entries_between from end es = entries_until end (entries_from from es)

-- a file is open over this disk, and its list; over an unknown disk no file is open
abbrev pub IsOpenIn : Option Contents → SortedFile → Type 0
IsOpenIn None file = ⊥
IsOpenIn (Some m) file = IsOpen m file

abbrev pub listed_in : Option Contents → SortedFile → List Entry
listed_in None file = []
listed_in (Some m) file = listed m file

-- the list of a memtable, if there is one, and the lists of files
abbrev pub lists_over : Option Contents → Option (List Entry) → List SortedFile → List (List Entry)
lists_over disk memtable files = option_to_list memtable ++ map (listed_in disk) files

-- the merged list of these lists, from `from` on, and below `end` if there is one
abbrev pub part : List ℕ → Option (List ℕ) → List (List Entry) → List Entry
part from end lists = merged (map (entries_between from end) lists)

-- a source is before its first entry
abbrev pub IsAtStart : Option Contents → Bounded Input → Type 0
IsAtStart disk s =
    InputHolds disk (source_of s) × (lent_until (end_of s) (input_lent (source_of s)) ≡ None)

-- the entries that are left in it
abbrev pub remaining_of : Option Contents → Bounded Input → List Entry
remaining_of disk s = entries_until (end_of s) (input_remaining disk (source_of s))

-- a source of a file's entries from a text on, and below `end` if there is one
pub record IsSourceOf (text : List ℕ) (end : Option (List ℕ)) (file : SortedFile) (s : Bounded Input)
    : Type 0 where
  pub cursor : FileCursor
  pub source : source_of s ≡ File cursor
  pub ends : end_of s ≡ end
  pub of : IsCursorOf file text cursor

-- a source of the file is among these
pub record HasSource (text : List ℕ) (end : Option (List ℕ)) (sources : List (Bounded Input))
    (file : SortedFile) : Type 0 where
  pub source : Bounded Input
  pub among : Contains sources source
  pub of : IsSourceOf text end file source

-- a source of a memtable's entries from a text on, and below `end` if there is one
pub record IsMemorySource (text : List ℕ) (end : Option (List ℕ)) (memory : List Entry)
    (s : Bounded Input) : Type 0 where
  pub source : source_of s ≡ Memtable (None, entries_from text memory)
  pub ends : end_of s ≡ end

-- the sources: one of the memtable, if there is one, then one of each file, the newest first
abbrev pub AreSourcesOf : List ℕ → Option (List ℕ) → Option (List Entry) → List SortedFile
    → List (Bounded Input) → Type 0
AreSourcesOf text end None files sources = AllZip (IsSourceOf text end) files sources
AreSourcesOf text end (Some memory) files [] = ⊥
AreSourcesOf text end (Some memory) files (s ∷ sources) =
    IsMemorySource text end memory s × AllZip (IsSourceOf text end) files sources

-- a source's current entry, and how it advances and where it fails over this disk
abbrev pub lent_by : Bounded Input → Option Entry
lent_by s = lent_until (end_of s) (input_lent (source_of s))

abbrev pub Steps : Option Contents → Bounded Input → Bounded Input → Type 0
Steps disk = BoundedSteps (InputSteps disk) input_lent

abbrev pub Breaks : Option Contents → Bounded Input → Type 0
Breaks disk s = InputBreaks disk (source_of s)

-- over this disk the source reaches its end
abbrev pub Comes : Option Contents → Bounded Input → Type 0
Comes disk = ComesToEnd (Steps disk) lent_by

-- A file was read from a text on, and below `end` if there is one: over this disk a source of it reaches its end,
-- through bytes that are entries.
pub record IsReadThrough (disk : Option Contents) (text : List ℕ) (end : Option (List ℕ))
    (file : SortedFile) : Type 0 where
  pub source : Bounded Input
  pub of : IsSourceOf text end file source
  pub comes : Comes disk source
