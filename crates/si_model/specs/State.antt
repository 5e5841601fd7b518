-- The state of the snapshot machine: its transactions, cleaners, collectors and tablets. Commits, answers and
-- rollbacks are never forgotten. (Percolator, transactions: data, lock and write columns; Bigtable, tablets.)
use Rattle.std.specs.Prelude.{◌≡◌, ℕ, ◌^◌, Bool, List, [], ◌∷◌, Option, None, Some, slice_get}
use Rattle.std.specs.Ordering.{nat_cmp}
use Rattle.std.specs.FinMap.{FinMap, empty, get}
use Rattle.si_model.specs.Sets.{◌∈◌}
use Rattle.si_model.specs.declared.replies.Cell.{Cell}

abbrev pub Value : Type 0
Value = List ℕ

-- a change of a cell by a write: a value, or None for a deletion
abbrev pub Change : Type 0
Change = Option Value

-- a session's writes, in the order in which their cells were first set or deleted
abbrev pub Writes : Type 0
Writes = List (Cell × Change)

-- the phase of a session: it takes Sets and Deletes; or it has marked this many of its cells; or it has drawn its
-- commit stamp; or it has committed, and has finished this many of its cells
pub data Phase : Type 0 where
  Open : Phase
  Holding : (held : ℕ) → Phase
  Stamped : (stamp : ℕ) → Phase
  Finishing : (stamp finished : ℕ) → Phase

-- a transaction that has committed: its start, its commit stamp and all its writes
pub record Commit : Type 0 where
  pub start : ℕ
  pub stamp : ℕ
  pub writes : Writes

-- a Get that was answered: the start of its session, the cell, and the value or nothing
pub record Read : Type 0 where
  pub start : ℕ
  pub cell : Cell
  pub answer : Option Value

-- a range of cells: after the cell `after` or from the first, up to and including the row `end` or to the last, of one
-- family or of all
pub record Range : Type 0 where
  pub after : Option Cell
  pub end : Option (List ℕ)
  pub family : Option (List ℕ)

-- the result for a cell that a scan names: its value; the start of the mark that blocks it; or that its value isn't
-- sent
pub data Item : Type 0 where
  Valued : (value : Value) → Item
  Locked : (start : ℕ) → Item
  Unsent : Item

-- how far a scan went: to the end of its range, or up to and including a cell
pub data Reach : Type 0 where
  ToEnd : Reach
  UpTo : (cell : Cell) → Reach

-- a scan that was answered: the start of its session, its range, how far it went, and its items
pub record Scan : Type 0 where
  pub start : ℕ
  pub range : Range
  pub reach : Reach
  pub items : List (Cell × Item)

-- an open cleaner: the cell and the start of the mark that it clears, and whether its first step was taken
pub record Cleaner : Type 0 where
  pub cell : Cell
  pub start : ℕ
  pub decided : Bool

-- a tablet: the rows after the previous tablet's end, up to and including its own end; None is the infinite end
pub record Place : Type 0 where
  pub end : Option (List ℕ)
  pub tablet : ℕ
  pub server : ℕ

pub record State : Type 0 where
  -- the greatest stamp answered
  pub top : ℕ
  -- each start that was ever drawn, and its session's writes
  pub begun : FinMap nat_cmp Writes
  -- each session that has not ended
  pub active : FinMap nat_cmp Phase
  pub commits : List Commit
  -- the starts that were rolled back
  pub dead : List ℕ
  -- the cells that are held, each with its holder's start
  pub marks : List (Cell × ℕ)
  pub reads : List Read
  pub scans : List Scan
  pub cleaners : FinMap nat_cmp Cleaner
  pub next_cleaner : ℕ
  -- the floor of each open collector
  pub collectors : FinMap nat_cmp ℕ
  pub next_collector : ℕ
  -- the greatest floor of a collector that was begun
  pub floor : ℕ
  -- the tablets, in the order of their ends
  pub places : List Place
  pub next_tablet : ℕ

-- no session, and tablet 1 on server 0 with all rows
abbrev pub new_machine : State
new_machine = record {
  top = 0;
  begun = empty;
  active = empty;
  commits = [];
  dead = [];
  marks = [];
  reads = [];
  scans = [];
  cleaners = empty;
  next_cleaner = 1;
  collectors = empty;
  next_collector = 1;
  floor = 0;
  places = record { end = None; tablet = 1; server = 0 } ∷ [];
  next_tablet = 2;
}

-- the machine after a clean restart: only sessions, cleaners and collectors are forgotten
abbrev pub reopened : State → State
reopened st =
    record st {
      active = empty;
      cleaners = empty;
      next_cleaner = 1;
      collectors = empty;
      next_collector = 1;
    }

-- limits

abbrev pub most_sessions : ℕ
most_sessions = 1024

abbrev pub most_cleaners : ℕ
most_cleaners = 1024

abbrev pub most_collectors : ℕ
most_collectors = 64

abbrev pub most_tablets : ℕ
most_tablets = 1024

abbrev pub most_servers : ℕ
most_servers = 16

abbrev pub most_writes : ℕ
most_writes = 256

abbrev pub most_value : ℕ
most_value = 65536

abbrev pub most_visits : ℕ
most_visits = 1000

-- the most cells that one scan may look at
abbrev pub most_scanned : ℕ
most_scanned = 1000

-- the upper bound of stamps and of the numbers of cleaners and collectors, exclusive
abbrev pub end_of_stamps : ℕ
end_of_stamps = 2 ^ 63

-- relations on a state

-- the session that began at t is in this phase
abbrev pub InPhase : State → ℕ → Phase → Type 0
InPhase st t p = get st.active t ≡ Some p

-- t was drawn as a start, and these are its writes
abbrev pub Wrote : State → ℕ → Writes → Type 0
Wrote st t ws = get st.begun t ≡ Some ws

-- x has a mark of t
abbrev pub Marked : State → Cell → ℕ → Type 0
Marked st x t = (x, t) ∈ st.marks

-- the k-th write, counted from 0, makes the change v of x
abbrev pub Puts : Writes → ℕ → Cell → Change → Type 0
Puts ws k x v = slice_get ws k ≡ Some (x, v)

-- the writes make the change v of x
abbrev pub Gives : Writes → Cell → Change → Type 0
Gives ws x v = (k : ℕ) × Puts ws k x v

-- x is among the cells of the writes
abbrev pub Names : Writes → Cell → Type 0
Names ws x = (v : Change) × Gives ws x v

abbrev pub IsDead : State → ℕ → Type 0
IsDead st t = t ∈ st.dead

-- t is the start of a commit, with this stamp
abbrev pub CommittedAt : State → ℕ → ℕ → Type 0
CommittedAt st t c = (ws : Writes) × (record { start = t; stamp = c; writes = ws } ∈ st.commits)

abbrev pub IsCommitted : State → ℕ → Type 0
IsCommitted st t = (c : ℕ) × CommittedAt st t c

abbrev pub HasTablet : State → ℕ → Type 0
HasTablet st n = (p : Place) × (p ∈ st.places) × (p.tablet ≡ n)

-- the row is the end of a tablet
abbrev pub IsEnd : State → List ℕ → Type 0
IsEnd st row = (p : Place) × (p ∈ st.places) × (p.end ≡ Some row)
