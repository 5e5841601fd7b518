-- The report of a server's state: its counts, and those of one tablet.
use Rattle.std.specs.Prelude.{◌≡◌, ◌-◌, ◌^◌, ℕ, List, [], ◌∷◌, ◌++◌, length, flat_map, min, Option, None, Some, Contains}
use Rattle.std.specs.Int.{w64, to_be_bytes}
use Rattle.file_store.specs.Store.{Contents}
use Rattle.memtable.specs.Edits.{bytes_of}
use Rattle.metadata_table.specs.Places.{PlaceView}
use Rattle.metadata_table.specs.Table.{HasTablet}
use Rattle.row_atomic.specs.Clusters.{ClusterState, tablet_numbered}
use Rattle.row_atomic.specs.Recorded.{bytes_written}
use Rattle.si_model.specs.Machine.{IsFloor, IsReached, State}
use Rattle.tablet.specs.Views.{file_bytes_of, memory_of, names_of}
use Rattle.tablet.specs.declared.tablet.Tablet.{Tablet}
use Rattle.txn_client.specs.Shows.{session_count}
use Rattle.clean_up.specs.Shows.{cleaner_count}
use Rattle.version_collector.specs.Shows.{collector_count}
use Rattle.server_loop.specs.Server.{Shows, cluster_of, floor_of, journal_of, last_of}
use Rattle.server_loop.specs.declared.server.Server.{Server}

-- the most bytes of a report
abbrev pub report_limit : ℕ
report_limit = 65536

-- numbers of eight bytes, one after the other
abbrev pub words : List ℕ → List ℕ
words numbers = flat_map (to_be_bytes w64) numbers

-- The counts of a server: its last stamp, the floor of its sessions, the greatest floor of a collector, its sessions,
-- cleaners and collectors, the bytes that its sessions buffer, those of its journal, and its tablets.
pub record AreCounts {F M W : Type 0} (contents : F → Option Contents) (server : Server F M W)
    (numbers : List ℕ) : Type 0 where
  pub floor : ℕ
  pub is_floor : (st : State) → IsReached st → Shows contents server st → IsFloor st floor
  pub counts : numbers
      ≡ last_of server ∷ floor ∷ floor_of server ∷ session_count server.clients
      ∷ cleaner_count server.cleaners ∷ collector_count server.collectors
      ∷ server.clients.buffered ∷ bytes_written (journal_of server)
      ∷ length (cluster_of server).places ∷ []

-- The counts of a tablet: its server, the entries of its memtable and their bytes, its files, and the bytes of their
-- entries.
abbrev pub tablet_counts : PlaceView → Tablet → List ℕ
tablet_counts place tablet =
    place.server ∷ length (memory_of tablet) ∷ bytes_of (memory_of tablet)
    ∷ length (names_of tablet) ∷ min (file_bytes_of tablet) (2 ^ 64 - 1) ∷ []

-- the end of a place's rows; nothing for the last place
abbrev pub end_bytes : Option (List ℕ) → List ℕ
end_bytes None = []
end_bytes (Some row) = row

-- what is told of the tablet with a number: its counts and the end of its rows, or nothing if there is no such tablet
pub data IsTabletReport {F : Type 0} (cluster : ClusterState F) (number : ℕ) : List ℕ → Type 0 where
  none : ¬ HasTablet number cluster.places → IsTabletReport cluster number []
  some : (place : PlaceView) (tablet : Tablet) → Contains cluster.places place
      → place.tablet ≡ number → tablet_numbered number cluster.tablets ≡ Some tablet
      → IsTabletReport cluster number (words (tablet_counts place tablet) ++ end_bytes place.end)

-- a report of a server, and of the tablet with this number
pub record IsReport {F M W : Type 0} (contents : F → Option Contents) (server : Server F M W)
    (number : ℕ) (report : List ℕ) : Type 0 where
  pub numbers : List ℕ
  pub counts : AreCounts contents server numbers
  pub of_tablet : List ℕ
  pub told : IsTabletReport (cluster_of server) number of_tablet
  pub bytes : report ≡ words numbers ++ of_tablet
