-- The server with a log that an opening makes of its devices.
use Rattle.std.specs.Prelude.{◌≡◌, ◌≢◌, ◌≤◌, ◌⊎◌, ℕ, List, [], Option, None, Some, Result, Err, IsSomeAnd}
use Rattle.std.specs.FinMap.{get, empty}
use Rattle.std.specs.List.{AllByRecursion}
use Rattle.cell_key.specs.Cells.{Cells, after_edits}
use Rattle.cell_key.specs.declared.edits.Edit.{Edit}
use Rattle.cell_key.specs.declared.refusals.Refusal.{Refusal}
use Rattle.cell_key.specs.declared.refusals.Refusal.TheVariants.{Damaged, Device, NoMemory}
use Rattle.commit_log.specs.Edits.{HoldEdits, IsStoredEdit}
use Rattle.commit_log.specs.Records.{AreUpTo, HasRecord, any_root}
use Rattle.commit_log.specs.declared.faults.LogFault.{LogFault}
use Rattle.commit_log.specs.declared.faults.LogFault.TheVariants as log
use Rattle.commit_log.specs.declared.logs.Log.{Ghosts as Log}
use Rattle.file_store.specs.Store.{Contents}
use Rattle.file_store.specs.declared.files.Files.{Ghosts as Files}
use Rattle.metadata_table.specs.Roots.{IsRoot, RootView}
use Rattle.oracle.specs.declared.marks.MarkStore.{Ghosts as MarkStore}
use Rattle.row_atomic.specs.Roots.{root_name}
use Rattle.row_atomic.specs.declared.recorded.Recorded.{Recorded}
use Rattle.rows.specs.Refusals.{IsApplyRefusal, IsReadRefusal}
use Rattle.si_model.specs.Machine.{IsReached, State, new_machine, reopened}
use Rattle.si_model.specs.Recovered.{IsRecovered}
use Rattle.si_model.specs.ShowsCells.{ShowsCells}
use Rattle.durable.specs.Devices.{IsOver, KeepsUnder, LastsOn, most_stamp}
use Rattle.durable.specs.Replay.{FollowsLog, logged_journal}
use Rattle.server_loop.specs.Opening.{IsLost}
use Rattle.server_loop.specs.Server.{Shows, cluster_of, journal_of, last_of, machine_places}
use Rattle.durable.specs.OverDevices.{IsSettledOver}
use Rattle.durable.specs.Stored.{IsRooted}
use Rattle.durable.specs.declared.server.DurableServer.{DurableServer}
use Rattle.server_loop.specs.declared.server.Server.{Server}

-- the refusal of a fault of a log
abbrev pub log_refusal : LogFault → Refusal
log_refusal log.Device = Device
log_refusal log.Memory = NoMemory
log_refusal log.Damaged = Damaged
log_refusal log.Refused = Device

-- a refusal alone, without the devices that are given back
abbrev pub refused_with : Refusal → Result (Unit {0}) Refusal
refused_with refusal = Err refusal

-- no records that a log holds are edits within the limits
abbrev pub IsLostLog : (List (List ℕ) → Type 0) → Type 0
IsLostLog holds =
    (records : List (List ℕ)) (edits : List Edit) → holds records
    → AllByRecursion IsStoredEdit edits → ¬ HoldEdits records edits

-- a root file is there
abbrev pub HasRootFile : Option Contents → Type 0
HasRootFile disk = IsSomeAnd disk (λ m. get m root_name ≢ None)

-- A log of these records isn't over the current root: there is no root file, and the records hold edits
-- or name a root; or the root file has another root.
pub data LacksBase (m : Contents) (records : List (List ℕ)) : Type 0 where
  no_root : get m root_name ≡ None
      → (¬ HoldEdits records []) ⊎ ¬ HasRecord records any_root → LacksBase m records
  other_root : (image : List ℕ) (root : RootView) → get m root_name ≡ Some image → IsRoot root image
      → ¬ IsOver records root → LacksBase m records

-- Files and a mark are whole beside a log of these records: nothing of a checkpoint is lost, the log is
-- over the root that is there, and no record has a stamp above the greatest one.
pub record AreWhole (m : Contents) (mark : ℕ) (records : List (List ℕ)) : Type 0 where
  pub kept : ¬ IsLost m mark
  pub over : ¬ LacksBase m records
  pub stamps : AreUpTo most_stamp records

-- a refusal to open a store that has a root
abbrev pub IsOpeningRefusal : Refusal → Type 0
IsOpeningRefusal refusal = IsReadRefusal refusal ⊎ IsApplyRefusal refusal

-- the greatest stamp that a root file names, and 0 without one
abbrev pub NamesTop : Option (List ℕ) → ℕ → Type 0
NamesTop None top = top ≡ 0
NamesTop (Some image) top = (root : RootView) × IsRoot root image × (root.top ≡ top)

-- The rows of a new store, with its root put.
pub record OpensNew {F W : Type 0} (contents : F → Option Contents) (top : ℕ) (edits : List Edit)
    (rows : Recorded F W) : Type 0 where
  pub root : RootView
  pub follows : FollowsLog contents root empty edits rows
  pub places : machine_places root.places ≡ new_machine.places
  pub no_top : root.top ≡ top
  pub none : top ≡ 0
  pub no_edits : edits ≡ []

module _ {F N W : Type 0} (files : Files F W) (mark : Option ℕ) where
  -- A server over cells under a root, and edits. It shows a state that the machine can reach by itself from
  -- the one that these show. The edits are logged, and its files and the mark keep the cells.
  pub record ServesFrom (root : RootView) (base : Cells) (edits : List Edit) (st : State)
      (server : Server F N W) : Type 0 where
    pub next : State
    pub reached : IsReached next
    pub recovered : IsRecovered (last_of server) st next
    pub shown : Shows files.contents server next
    pub rooted : IsRooted files.contents server root
    pub journal : journal_of server ≡ Some (logged_journal edits)
    pub keeps : KeepsUnder (files.contents (cluster_of server).files) mark root base next.places
    pub shows : ShowsCells (after_edits base edits) (reopened next)
    pub top : next.top ≤ last_of server

module _ {F N M L W : Type 0} (files : Files F W) (marks : MarkStore M) (log : Log L) where
  -- An opened server shows a state that the machine can reach by itself from the kept one. Its answers
  -- last from then on, and its devices keep the state that it shows.
  pub record OpensFrom (st : State) (opened : DurableServer (Server F N W) M L) : Type 0 where
    pub next : State
    pub reached : IsReached next
    pub recovered : IsRecovered (last_of opened.server) st next
    pub shown : Shows files.contents opened.server next
    pub settled : IsSettledOver files log opened
    pub lasts : LastsOn (files.contents (cluster_of opened.server).files)
        (marks.mark opened.marks.marks) (log.holds opened.log) next
