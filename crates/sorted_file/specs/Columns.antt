-- The column data that an opening gathers from entries.
use Rattle.std.specs.Prelude.{ℕ, List}
use Rattle.std.specs.List.{AllByRecursion}
use Rattle.cell_key.specs.Entries.{Entry}
use Rattle.sorted_file.specs.Block.{IsSpelling}
use Rattle.sorted_file.specs.Bounds.{IsBounded}
use Rattle.sorted_file.specs.Numbers.{IsLockKeyNumbered, IsNumbered, KeepsLocks}
use Rattle.sorted_file.specs.declared.gathering.Columns.{Columns}

-- The bounds contain all entries. The hashes of their columns and of their lock keys, and the keys of
-- their locks with a value, are listed.
pub record AreColumnsOf (columns : Columns) (es : List Entry) : Type 0 where
  pub bounded : AllByRecursion (IsBounded columns.bounds) es
  pub numbered : AllByRecursion (IsNumbered columns.numbers.items) es
  pub keyed : AllByRecursion (IsLockKeyNumbered columns.lock_keys.items) es
  pub locks_kept : KeepsLocks columns.lock_values.items columns.named_locks.items es

-- the bytes spell an entry list whose entries are at these offsets and have this column data
pub record IsGathered (bytes starts : List ℕ) (kept : Columns) : Type 0 where
  pub spelling : IsSpelling bytes starts
  pub columns : AreColumnsOf kept spelling.entries
