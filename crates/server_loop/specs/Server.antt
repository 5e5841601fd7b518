-- When a server shows a state of the machine.
use Rattle.std.specs.Prelude.{◌≡◌, ◌≤◌, ℕ, ◌+◌, ◌⊎◌, List, length, map, Option, None, IfSome}
use Rattle.std.specs.FinMap.{empty}
use Rattle.cell_key.specs.Cells.{Cells}
use Rattle.cell_key.specs.Faults.{HasRisen}
use Rattle.file_store.specs.Store.{Contents}
use Rattle.metadata_table.specs.Places.{PlaceView}
use Rattle.metadata_table.specs.Roots.{RootView}
use Rattle.row_atomic.specs.Clusters.{ClusterState, Spot, cells_in, spot_of}
use Rattle.row_atomic.specs.Commands.{cells_shown}
use Rattle.row_atomic.specs.Journals.{JournalView}
use Rattle.row_atomic.specs.Recorded.{seen_recorded}
use Rattle.row_atomic.specs.Roots.{root_at}
use Rattle.row_atomic.specs.declared.recorded.Recorded.{Recorded}
use Rattle.sorted_file.specs.Limits.{IsFileLimit}
use Rattle.si_model.specs.Machine as machine
use Rattle.si_model.specs.Machine.{State}
use Rattle.si_model.specs.ShowsCells.{ShowsCells}
use Rattle.txn_client.specs.Shows as clients
use Rattle.clean_up.specs.Shows.{ShowsCleaners}
use Rattle.version_collector.specs.Shows.{KnowsFloor, ShowsCollectors}
use Rattle.server_loop.specs.declared.server.Config.{Config}
use Rattle.server_loop.specs.declared.server.Server.{Server}
use Rattle.server_loop.specs.declared.server.Tending.{Tending}

-- limits that a store may have
pub record IsConfig (config : Config) : Type 0 where
  pub flush_least : 1 ≤ config.flush.entries
  pub flush_most : config.flush.entries ≤ 100000
  pub flush_bytes : IfSome config.flush.bytes (λ bytes. (1048576 ≤ bytes) × (bytes ≤ 67108864))
  pub limit : IsFileLimit config.file_limit

-- its cluster, the mark store of its oracle, and the oracle's last stamp
abbrev pub cluster_of : {F M W : Type 0} → Server F M W → ClusterState F
cluster_of server = server.rows.cluster

-- its rows: the cluster, and the journal of a server whose edits outlast a kill
abbrev pub rows_of : {F M W : Type 0} → Server F M W → Recorded F W
rows_of server = server.rows

abbrev pub journal_of : {F M W : Type 0} → Server F M W → Option JournalView
journal_of server = server.rows.journal

-- the same server, without a journal
abbrev pub forgets : {F M W : Type 0} → Server F M W → Server F M W
forgets server = record server { rows = record (rows_of server) { journal = None } }

-- the files are intact; and if edits are recorded, the journal makes the cluster's cells from those that the files keep
abbrev pub HoldsIn : {F M W : Type 0} → (F → Option Contents) → Server F M W → Type 0
HoldsIn contents server = (seen_recorded contents).holds (rows_of server)

abbrev pub marks_of : {F M W : Type 0} → Server F M W → M
marks_of server = server.oracle.marks

abbrev pub last_of : {F M W : Type 0} → Server F M W → ℕ
last_of server = server.oracle.last

-- the greatest stamp answered, and the greatest floor that a collector began with
abbrev pub top_of : {F M W : Type 0} → Server F M W → ℕ
top_of server = server.clients.top

abbrev pub floor_of : {F M W : Type 0} → Server F M W → ℕ
floor_of server = server.collectors.greatest_floor

-- the root that a checkpoint would put if all tablets were flushed
abbrev pub next_root : {F M W : Type 0} → Server F M W → RootView
next_root server = root_at (top_of server) (floor_of server) (cluster_of server)

-- when it compacts on its own
abbrev pub tending_of : {F M W : Type 0} → Server F M W → Tending
tending_of server = server.tending

-- the place of a tablet, as the machine stores it
abbrev pub machine_place : Spot → machine.Place
machine_place spot = record { end = spot.0; tablet = spot.1.0; server = spot.1.1 }

abbrev pub machine_places : List PlaceView → List machine.Place
machine_places places = map machine_place (map spot_of places)

-- The tablets are in order over their files. Their cells, the sessions and the oracle show the state, and so do the
-- cleaners and the collectors. No other server draws stamps or begins collectors. The tablets are at the state's places,
-- and the next tablet gets the number after theirs.
pub record Shows {F M W : Type 0} (contents : F → Option Contents) (server : Server F M W)
    (st : State) : Type 0 where
  pub in_order : HoldsIn contents server
  pub shows : clients.Shows
      (cells_in (contents server.rows.cluster.files) server.rows.cluster.tablets)
      server.clients server.oracle.last st
  pub alone : clients.KnowsTop server.clients st × KnowsFloor server.collectors st
  pub cleaners : ShowsCleaners server.cleaners st
  pub collectors : ShowsCollectors
      (cells_in (contents server.rows.cluster.files) server.rows.cluster.tablets)
      server.collectors st
  pub places : machine_places server.rows.cluster.places ≡ st.places
  pub next : st.next_tablet ≡ length st.places + 1

-- Tablets in order, an oracle's last stamp, the greatest stamp answered and the greatest floor show a state with no
-- session, in which no cleaner or collector has been given a number yet.
pub record ShowsNoSession {F W : Type 0} (contents : F → Option Contents) (rows : Recorded F W)
    (last top floor : ℕ) (st : State) : Type 0 where
  pub in_order : (seen_recorded contents).holds rows
  pub store : ShowsCells (cells_shown contents rows.cluster) st
  pub places : machine_places rows.cluster.places ≡ st.places
  pub next : st.next_tablet ≡ length st.places + 1
  pub answered : st.top ≡ top
  pub marked : st.top ≤ last
  pub collected : st.floor ≡ floor
  pub active : st.active ≡ empty
  pub cleaner : st.next_cleaner ≡ 1
  pub cleaners : st.cleaners ≡ empty
  pub collector : st.next_collector ≡ 1
  pub collectors : st.collectors ≡ empty

-- a device of the files or of the mark store has failed
abbrev pub IsFaultSeen : {F M W : Type 0} → (F → ℕ) → (M → ℕ) → Server F M W → Server F M W → Type 0
IsFaultSeen file_faults mark_faults old new =
    HasRisen (file_faults old.rows.cluster.files) (file_faults new.rows.cluster.files)
    ⊎ HasRisen (mark_faults old.oracle.marks) (mark_faults new.oracle.marks)

-- no device has failed
pub record SeesNoFault {F M W : Type 0} (file_faults : F → ℕ) (mark_faults : M → ℕ)
    (old new : Server F M W) : Type 0 where
  pub files : file_faults new.rows.cluster.files ≡ file_faults old.rows.cluster.files
  pub marks : mark_faults new.oracle.marks ≡ mark_faults old.oracle.marks

-- all cells
abbrev pub server_cells : {F M W : Type 0} → (F → Option Contents) → Server F M W → Cells
server_cells contents server =
    cells_in (contents server.rows.cluster.files) server.rows.cluster.tablets
