-- The locks that may have a value in any of several files.
use Rattle.std.specs.Prelude.{◌≡◌, ℕ, List, Option, Contains, IsSome, map}
use Rattle.std.specs.List.{AllByRecursion, AllZip}
use Rattle.cell_key.specs.Keys.{text, IsStored}
use Rattle.cell_key.specs.Entries.{first_naming, value_of}
use Rattle.cell_key.specs.declared.keys.CellKey.{CellKey}
use Rattle.cell_key.specs.declared.keys.Qualifier.TheVariants.{Lock}
use Rattle.file_store.specs.Store.{Contents}
use Rattle.sorted_file.specs.File.{IsSameFile, IsTelling, listing}
use Rattle.sorted_file.specs.Filters.{HasBits}
use Rattle.sorted_file.specs.Numbers.{lock_stamp, number_of, text_number}
use Rattle.sorted_file.specs.declared.file.SortedFile.{SortedFile}
use Rattle.sorted_file.specs.declared.lock_stamps.LockStamp.{LockStamp}

-- the stamp of a lock with this key, with the hash of its column
abbrev pub stamp_of : CellKey → LockStamp
stamp_of key = lock_stamp (number_of (text key)) key.stamp

-- a filter has the hash of a key's row
abbrev pub HasRow : List ℕ → CellKey → Type 0
HasRow words key = HasBits words (text_number key.row)

-- Keys are an index of the locks of files, newest first: if the lock keys that each file keeps are right, each lock
-- that has a value in all files together is among the keys.
abbrev pub IsIndexOf : List CellKey → List SortedFile → Type 0
IsIndexOf index files =
    AllByRecursion IsTelling files → (key : CellKey) → IsStored key → key.qualifier ≡ Lock
    → IsSome (value_of (first_naming (map listing files) (text key))) → Contains index key

-- an index of files that are unchanged but for their caches is still their index
abbrev pub StaysIndexed : Type 0
StaysIndexed =
    (disk : Option Contents) (index : List CellKey) (old new : List SortedFile)
    → AllZip (IsSameFile disk) old new → IsIndexOf index old → IsIndexOf index new
