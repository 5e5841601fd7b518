-- The journal follows the shown cells, if the storage below and the cells are unchanged.
use Rattle.std.proofs.Common.{◌≡◌, ◌∙◌, None, Option, Some, sym}
use Rattle.file_store.specs.Store.{Contents}
use Rattle.row_atomic.specs.Clusters.{ClusterState, storage_of}
use Rattle.row_atomic.specs.Commands.{cells_shown}
use Rattle.row_atomic.specs.Journals.{JournalView}
use Rattle.row_atomic.specs.Recorded.{Follows}
use Rattle.row_atomic.specs.Roots.{RootIsStored}

module _ {F : Type 0} (contents : F → Option Contents) where
  pub follows_stored : RootIsStored contents → (old new : ClusterState F) (journal : Option JournalView) → storage_of contents new ≡ storage_of contents old → cells_shown contents new ≡ cells_shown contents old → Follows contents old journal → Follows contents new journal
  follows_stored stored old new None same cells p = tt
  follows_stored stored old new (Some journal) same cells p = record {
    logged = p.logged;
    waiting = p.waiting;
    logged_bytes = p.logged_bytes;
    waiting_bytes = p.waiting_bytes;
    counted = p.counted;
    measured = p.measured;
    stored = p.stored;
    such = record {
      root = p.such.root;
      base = p.such.base;
      has = (stored p.such.root p.such.base old new same).0 p.such.has;
      replay = p.such.replay ∙ sym cells;
    };
  }
