-- The files that a filter of the keys of several files covers.
use Rattle.std.specs.Prelude.{All, Option}
use Rattle.file_store.specs.Store.{Contents}
use Rattle.sorted_file.specs.Bounds.{AreWithin}
use Rattle.sorted_file.specs.File.{IsSameFile}
use Rattle.sorted_file.specs.Filters.{HasBits}
use Rattle.sorted_file.specs.declared.file.SortedFile.{SortedFile}
use Rattle.sorted_file.specs.declared.key_filter.KeyFilter.{KeyFilter}

-- A key filter covers a file: it has the file's hashes of columns and of locks' keys, and its bounds contain the
-- file's.
pub record Covers (filter : KeyFilter) (file : SortedFile) : Type 0 where
  pub numbers : All (HasBits filter.numbers.words.items) file.numbers
  pub lock_keys : All (HasBits filter.lock_keys.words.items) file.lock_keys
  pub bounds : AreWithin file.bounds filter.bounds

-- a file that is unchanged but for its cache is still covered
abbrev pub StaysCovered : Type 0
StaysCovered =
    (disk : Option Contents) (filter : KeyFilter) (old new : SortedFile) → IsSameFile disk old new
    → Covers filter old → Covers filter new
