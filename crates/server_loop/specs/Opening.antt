-- Damage to a checkpointed store.
use Rattle.std.specs.Prelude.{◌≡◌, ◌<◌, ℕ, List, Option, None, Some, IsSomeAnd}
use Rattle.std.specs.FinMap.{get}
use Rattle.file_store.specs.Store.{Contents}
use Rattle.metadata_table.specs.Roots.{IsRoot, RootView}
use Rattle.row_atomic.specs.Roots.{root_name}
use Rattle.row_atomic.specs.Open.{IsDamaged}

-- the files' bytes are known, and there is no root file
abbrev pub LacksRoot : Option Contents → Type 0
LacksRoot disk = IsSomeAnd disk (λ m. get m root_name ≡ None)

-- The root file is malformed, or a file that it names is missing or malformed. Or the mark is below the root's greatest
-- stamp.
pub data IsLost (m : Contents) (mark : ℕ) : Type 0 where
  damaged : IsDamaged m → IsLost m mark
  below : (image : List ℕ) (root : RootView) → get m root_name ≡ Some image → IsRoot root image
      → mark < root.top → IsLost m mark
