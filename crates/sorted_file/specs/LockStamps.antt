-- The stamps of locks, by the hashes of their columns.
use Rattle.std.specs.Prelude.{◌≡◌, ◌≤◌, ℕ, List, Option, All, Contains, IfSome}
use Rattle.std.specs.List.Sorted.{IsNonDecreasingBy}
use Rattle.sorted_file.specs.Newest.{IsAfterStamp}
use Rattle.sorted_file.specs.Numbers.{lock_stamp}
use Rattle.sorted_file.specs.declared.lock_stamps.LockStamp.{LockStamp}

-- found is the greatest stamp, from lo to hi, of locks whose column has this hash
pub record IsLatest (locks : List LockStamp) (column lo hi : ℕ) (found : Option ℕ) : Type 0 where
  pub within : IfSome found (λ stamp. (lo ≤ stamp) × (stamp ≤ hi))
  pub there : IfSome found (λ stamp. Contains locks (lock_stamp column stamp))
  pub none : (s : ℕ) → IsAfterStamp s lo found → s ≤ hi → ¬ Contains locks (lock_stamp column s)

-- the same for locks of any columns
pub record IsLatestOf (locks : List LockStamp) (lo hi : ℕ) (found : Option ℕ) : Type 0 where
  pub within : IfSome found (λ stamp. (lo ≤ stamp) × (stamp ≤ hi))
  pub there : IfSome found (λ stamp. (lock : LockStamp) × Contains locks lock × (lock.stamp ≡ stamp))
  pub none : All (λ (lock : LockStamp). IsAfterStamp lock.stamp lo found → ¬ (lock.stamp ≤ hi)) locks

-- locks are in ascending order of their columns' hashes
abbrev pub InColumnOrder : List LockStamp → Type 0
InColumnOrder locks = IsNonDecreasingBy (λ (lock : LockStamp). lock.column) locks
