-- When a request is refused, and with which refusal.
use Rattle.std.specs.Prelude.{◌≡◌, ◌≢◌, ℕ, ◌<◌, ◌≤◌, ◌⊎◌, ⊤, Bool, List, [], length, None}
use Rattle.std.specs.FinMap.{get, len}
use Rattle.cell_key.specs.Names.{IsRow, IsFamily}
use Rattle.cell_key.specs.Refusals.{refusal_number}
use Rattle.cell_key.specs.declared.keys.Qualifier.{Qualifier}
use Rattle.cell_key.specs.declared.refusals.Refusal.{Refusal}
use Rattle.cell_key.specs.declared.refusals.Refusal.TheVariants.{UnknownSession, WrongPhase, BadRow, BadColumn, BadValue, TooManyWrites, TooManySessions, EmptyCommit, UnknownCleaner, UnknownCollector, UnknownTablet, BadSplit, UnknownServer, BadCount, MemtableFull, TooManyFiles, FileTooLarge, Exhausted, Device, NoMemory, Damaged}
use Rattle.si_model.specs.State.{State, Value, Writes, Range, Phase, Open, InPhase, Wrote, Names, Marked, HasTablet, IsEnd, most_sessions, most_cleaners, most_collectors, most_tablets, most_servers, most_writes, most_value, most_visits, most_scanned}
use Rattle.si_model.specs.Messages.{Request, Begin, Get, Set, Delete, ScanFrom, Advance, Stop, CleanBegin, CleanStep, CollectBegin, CollectStep, Minor, Merge, Major, Split, Move, Raw}
use Rattle.si_model.specs.Scans.{HasRows, HasFamilies}
use Rattle.si_model.specs.declared.replies.Cell.{Cell}

-- The refusal applies to the request. For each operation, its refusals are in the order in which they are checked,
-- which is the order of their numbers. Sweep, Checkpoint, Status and OracleRestart have none.
pub data Applies (st : State) : Request → Refusal → Type 0 where
  begin_full : most_sessions ≤ len st.active → Applies st Begin TooManySessions
  get_unknown : {s : ℕ} {x : Cell} → get st.active s ≡ None → Applies st (Get s x) UnknownSession
  get_late : {s : ℕ} {x : Cell} {p : Phase} → InPhase st s p → p ≢ Open
      → Applies st (Get s x) WrongPhase
  get_row : {s : ℕ} {x : Cell} → ¬ IsRow x.row → Applies st (Get s x) BadRow
  get_family : {s : ℕ} {x : Cell} → ¬ IsFamily x.family → Applies st (Get s x) BadColumn
  set_unknown : {s : ℕ} {x : Cell} {v : Value} → get st.active s ≡ None
      → Applies st (Set s x v) UnknownSession
  set_late : {s : ℕ} {x : Cell} {v : Value} {p : Phase} → InPhase st s p → p ≢ Open
      → Applies st (Set s x v) WrongPhase
  set_row : {s : ℕ} {x : Cell} {v : Value} → ¬ IsRow x.row → Applies st (Set s x v) BadRow
  set_family : {s : ℕ} {x : Cell} {v : Value} → ¬ IsFamily x.family
      → Applies st (Set s x v) BadColumn
  set_long : {s : ℕ} {x : Cell} {v : Value} → most_value < length v
      → Applies st (Set s x v) BadValue
  set_full : {s : ℕ} {x : Cell} {v : Value} {ws : Writes} → Wrote st s ws
      → ¬ Names ws x → most_writes ≤ length ws → Applies st (Set s x v) TooManyWrites
  delete_unknown : {s : ℕ} {x : Cell} → get st.active s ≡ None → Applies st (Delete s x) UnknownSession
  delete_late : {s : ℕ} {x : Cell} {p : Phase} → InPhase st s p → p ≢ Open
      → Applies st (Delete s x) WrongPhase
  delete_row : {s : ℕ} {x : Cell} → ¬ IsRow x.row → Applies st (Delete s x) BadRow
  delete_family : {s : ℕ} {x : Cell} → ¬ IsFamily x.family → Applies st (Delete s x) BadColumn
  delete_full : {s : ℕ} {x : Cell} {ws : Writes} → Wrote st s ws → ¬ Names ws x
      → most_writes ≤ length ws → Applies st (Delete s x) TooManyWrites
  scan_unknown : {s n : ℕ} {range : Range} {keys_only : Bool} → get st.active s ≡ None
      → Applies st (ScanFrom s range keys_only n) UnknownSession
  scan_late : {s n : ℕ} {range : Range} {keys_only : Bool} {p : Phase} → InPhase st s p → p ≢ Open
      → Applies st (ScanFrom s range keys_only n) WrongPhase
  scan_row : {s n : ℕ} {range : Range} {keys_only : Bool} → ¬ HasRows range
      → Applies st (ScanFrom s range keys_only n) BadRow
  scan_family : {s n : ℕ} {range : Range} {keys_only : Bool} → ¬ HasFamilies range
      → Applies st (ScanFrom s range keys_only n) BadColumn
  scan_none : {s n : ℕ} {range : Range} {keys_only : Bool} → n < 1
      → Applies st (ScanFrom s range keys_only n) BadCount
  scan_many : {s n : ℕ} {range : Range} {keys_only : Bool} → most_scanned < n
      → Applies st (ScanFrom s range keys_only n) BadCount
  advance_unknown : {s : ℕ} → get st.active s ≡ None → Applies st (Advance s) UnknownSession
  advance_empty : {s : ℕ} → Wrote st s [] → Applies st (Advance s) EmptyCommit
  stop_unknown : {s : ℕ} → get st.active s ≡ None → Applies st (Stop s) UnknownSession
  clean_row : {x : Cell} → ¬ IsRow x.row → Applies st (CleanBegin x) BadRow
  clean_family : {x : Cell} → ¬ IsFamily x.family → Applies st (CleanBegin x) BadColumn
  -- only if there is a mark to clear
  clean_full : {x : Cell} {t : ℕ} → Marked st x t → most_cleaners ≤ len st.cleaners
      → Applies st (CleanBegin x) TooManySessions
  clean_unknown : {i : ℕ} → get st.cleaners i ≡ None → Applies st (CleanStep i) UnknownCleaner
  collect_full : most_collectors ≤ len st.collectors → Applies st CollectBegin TooManySessions
  collect_unknown : {i n : ℕ} → get st.collectors i ≡ None
      → Applies st (CollectStep i n) UnknownCollector
  collect_none : {i n : ℕ} → n < 1 → Applies st (CollectStep i n) BadCount
  collect_many : {i n : ℕ} → most_visits < n → Applies st (CollectStep i n) BadCount
  minor_unknown : {k : ℕ} → ¬ HasTablet st k → Applies st (Minor k) UnknownTablet
  merge_unknown : {k n : ℕ} → ¬ HasTablet st k → Applies st (Merge k n) UnknownTablet
  merge_few : {k n : ℕ} → n < 2 → Applies st (Merge k n) BadCount
  major_unknown : {k : ℕ} → ¬ HasTablet st k → Applies st (Major k) UnknownTablet
  split_row : {row : List ℕ} → ¬ IsRow row → Applies st (Split row) BadRow
  split_end : {row : List ℕ} → IsEnd st row → Applies st (Split row) BadSplit
  split_full : {row : List ℕ} → most_tablets ≤ length st.places → Applies st (Split row) BadSplit
  move_unknown : {k server : ℕ} → ¬ HasTablet st k → Applies st (Move k server) UnknownTablet
  move_server : {k server : ℕ} → most_servers ≤ server → Applies st (Move k server) UnknownServer
  raw_row : {x : Cell} {q : Qualifier} {low high : ℕ} → ¬ IsRow x.row
      → Applies st (Raw x q low high) BadRow
  raw_family : {x : Cell} {q : Qualifier} {low high : ℕ} → ¬ IsFamily x.family
      → Applies st (Raw x q low high) BadColumn

-- the refusal applies, and no earlier one does
pub record IsFirstRefusal (st : State) (q : Request) (n : Refusal) : Type 0 where
  pub applies : Applies st q n
  pub first : (m : Refusal) → Applies st q m → (m ≡ n) ⊎ (refusal_number n < refusal_number m)

-- no refusal applies
abbrev pub IsAcceptable : State → Request → Type 0
IsAcceptable st q = (n : Refusal) → ¬ Applies st q n

-- refusals of the store, which may come at any time: a limit of the storage or of stamps, a device's fault, lack of
-- memory, damage
abbrev pub IsStorageRefusal : Refusal → Type 0
IsStorageRefusal MemtableFull = ⊤
IsStorageRefusal TooManyFiles = ⊤
IsStorageRefusal FileTooLarge = ⊤
IsStorageRefusal Exhausted = ⊤
IsStorageRefusal Device = ⊤
IsStorageRefusal NoMemory = ⊤
IsStorageRefusal Damaged = ⊤
IsStorageRefusal _ = ⊥

-- the request is answered with this refusal
pub data Refuses (st : State) : Request → Refusal → Type 0 where
  -- a refusal that applies is answered if it is the first
  applies_first : {q : Request} {n : Refusal} → IsFirstRefusal st q n → Refuses st q n
  -- a refusal of the store may come at any time
  gives_up : {q : Request} {n : Refusal} → IsStorageRefusal n → Refuses st q n
  -- a merge may ask for more files than the tablet has: the machine doesn't know their number
  merges_too_many : {k n : ℕ} → IsAcceptable st (Merge k n) → Refuses st (Merge k n) BadCount
