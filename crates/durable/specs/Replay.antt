-- The replay of a log's edits.
use Rattle.std.specs.Prelude.{◌≡◌, List, [], length, Option, None, Some, option_map}
use Rattle.cell_key.specs.Cells.{Cells, after_edits}
use Rattle.cell_key.specs.declared.edits.Edit.{Edit}
use Rattle.commit_log.specs.Edits.{spelled_edits, spelled_entries}
use Rattle.file_store.specs.Store.{Contents}
use Rattle.metadata_table.specs.Roots.{RootView}
use Rattle.row_atomic.specs.Changes.{Holds}
use Rattle.row_atomic.specs.Clusters.{ClusterState, storage_of}
use Rattle.row_atomic.specs.Commands.{cells_shown}
use Rattle.row_atomic.specs.Journals.{HasRoomFor, JournalView, with_waiting}
use Rattle.row_atomic.specs.Recorded.{FitsMemtables, seen_recorded}
use Rattle.row_atomic.specs.Roots.{HasRoot}
use Rattle.row_atomic.specs.declared.recorded.Recorded.{Recorded}
use Rattle.server_loop.specs.Server.{machine_places}

-- Edits were made in order, and appended to the journal. If the rows' invariant held it still does, and
-- the cells are those after the edits. The storage below is unchanged. If the journal had all edits of
-- the memtables, it still does.
pub record Replays {F W : Type 0} (contents : F → Option Contents) (edits : List Edit)
    (old new : Recorded F W) : Type 0 where
  pub still : (seen_recorded contents).holds old → (seen_recorded contents).holds new
  pub made : (seen_recorded contents).holds old
      → cells_shown contents new.cluster ≡ after_edits (cells_shown contents old.cluster) edits
  pub written : new.journal ≡ option_map (with_waiting edits) old.journal
  pub stays : storage_of contents new.cluster ≡ storage_of contents old.cluster
  pub fits : FitsMemtables old → FitsMemtables new

-- there is a journal, and it has room for these edits
abbrev pub HasRoom : Option JournalView → List Edit → Type 0
HasRoom None edits = ⊥
HasRoom (Some journal) edits = HasRoomFor journal edits

-- a journal of these edits, all of which the log has
abbrev pub logged_journal : List Edit → JournalView
logged_journal edits =
    record {
      logged = spelled_edits edits;
      waiting = [];
      count = length edits;
      entry_bytes = length (spelled_entries edits);
    }

-- A cluster shows the cells that its files keep under a root that names its tablets' places.
pub record ShowsRoot {F : Type 0} (contents : F → Option Contents) (root : RootView) (base : Cells)
    (state : ClusterState F) : Type 0 where
  pub holds : Holds contents state
  pub has : HasRoot contents root base state
  pub placed : machine_places root.places ≡ machine_places state.places
  pub shows : cells_shown contents state ≡ base

-- Rows show the cells that the files keep under a root, after these edits. The root names the tablets'
-- places. The edits are in the journal, and the log has them.
pub record FollowsLog {F W : Type 0} (contents : F → Option Contents) (root : RootView)
    (base : Cells) (edits : List Edit) (rows : Recorded F W) : Type 0 where
  pub holds : (seen_recorded contents).holds rows
  pub has : HasRoot contents root base rows.cluster
  pub placed : machine_places root.places ≡ machine_places rows.cluster.places
  pub shows : cells_shown contents rows.cluster ≡ after_edits base edits
  pub journal : rows.journal ≡ Some (logged_journal edits)
