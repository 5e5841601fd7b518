-- The limits of a sorted file's size in bytes.
use Rattle.std.specs.Prelude.{ℕ, ◌≤◌}

-- a possible limit of a sorted file's size: the file without entries has 48 bytes
pub record IsFileLimit (file_limit : ℕ) : Type 0 where
  pub least : 48 ≤ file_limit
  pub most : file_limit ≤ 68_719_476_736
