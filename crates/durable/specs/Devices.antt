-- The state that files, a log and a mark keep through a kill.
use Rattle.std.specs.Prelude.{◌≡◌, ◌≤◌, ◌+◌, ◌-◌, ◌^◌, ◌⊎◌, ℕ, List, length, Option, Some, IsSomeAnd}
use Rattle.std.specs.List.{AllByRecursion}
use Rattle.cell_key.specs.Cells.{Cells, after_edits}
use Rattle.cell_key.specs.declared.edits.Edit.{Edit}
use Rattle.commit_log.specs.Edits.{HoldEdits, IsStoredEdit}
use Rattle.commit_log.specs.Records.{AreUpTo, NamesRoot, ReachesStamp}
use Rattle.file_store.specs.Store.{Contents}
use Rattle.metadata_table.specs.Roots.{RootView}
use Rattle.row_atomic.specs.Journals.{HasRoomFor, empty_journal}
use Rattle.row_atomic.specs.Roots.{KeepsCells, root_sum}
use Rattle.si_model.specs.Machine.{Place, State, reopened}
use Rattle.si_model.specs.ShowsCells.{ShowsCells}
use Rattle.server_loop.specs.Server.{machine_places}

-- a log of these records is over a root
abbrev pub IsOver : List (List ℕ) → RootView → Type 0
IsOver records root = NamesRoot records root.top (root_sum root)

-- the greatest stamp that there is
abbrev pub most_stamp : ℕ
most_stamp = 2 ^ 63 - 1

-- Cells are kept under a root with the places of a state's tablets. A log is over this root; the edits
-- in its records, applied to the cells, give cells that show the state after a clean restart. The edits
-- are within the journal's limits, in number and in bytes. No record has a stamp above the greatest one.
-- The state's greatest stamp is covered, maybe by a record.
pub record Lasts (keeps : RootView → Cells → List Place → Type 0) (holds : List (List ℕ) → Type 0)
    (covers : List (List ℕ) → ℕ → Type 0) (st : State) : Type 0 where
  pub root : RootView
  pub base : Cells
  pub kept : keeps root base st.places
  pub records : List (List ℕ)
  pub in_log : holds records
  pub over : IsOver records root
  pub stamps : AreUpTo most_stamp records
  pub edits : List Edit
  pub held : HoldEdits records edits
  pub stored : AllByRecursion IsStoredEdit edits
  pub room : HasRoomFor empty_journal edits
  pub shows : ShowsCells (after_edits base edits) (reopened st)
  pub next : st.next_tablet ≡ length st.places + 1
  pub top : covers records st.top

-- a stored mark is at least the stamp
abbrev pub Covers : Option ℕ → ℕ → Type 0
Covers mark top = IsSomeAnd mark (λ number. top ≤ number)

-- a stored mark, or a record's stamp, is at least the stamp
abbrev pub CoversWith : Option ℕ → List (List ℕ) → ℕ → Type 0
CoversWith mark records top = Covers mark top ⊎ ReachesStamp records top

-- Files keep cells under a root whose tablets have these places, and whose greatest stamp is at most the
-- mark.
pub record KeepsUnder (disk : Option Contents) (mark : Option ℕ) (root : RootView) (cells : Cells)
    (places : List Place) : Type 0 where
  pub kept : Contents
  pub on_disk : disk ≡ Some kept
  pub keeps : KeepsCells kept root cells
  pub placed : machine_places root.places ≡ places
  pub covered : Covers mark root.top

-- The devices of a server with a log keep a state through a kill, given the known contents of the files,
-- the mark and the log.
abbrev pub LastsOn : Option Contents → Option ℕ → (List (List ℕ) → Type 0) → State → Type 0
LastsOn disk mark holds st = Lasts (KeepsUnder disk mark) holds (CoversWith mark) st
