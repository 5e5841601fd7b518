-- The laws of the snapshot machine.
use Rattle.std.specs.Prelude.{◌≡◌, ◌≢◌, ℕ, ◌<◌, ◌≤◌, ◌⊎◌, ⊤, ◌+◌, List, Option, slice_get, Some, length}
use Rattle.std.specs.Ordering.{nat_cmp}
use Rattle.std.specs.FinMap.{FinMap, get, len}
use Rattle.cell_key.specs.Names.{IsRow, IsFamily}
use Rattle.cell_key.specs.declared.refusals.Refusal.{Refusal}
use Rattle.si_model.specs.Sets.{◌∈◌}
use Rattle.si_model.specs.Machine.{State, Value, Change, Phase, Open, Holding, Finishing, end_of_stamps, most_sessions, most_writes, most_value, most_cleaners, most_collectors, most_tablets, Stamped, InPhase, Commit, Read, Request, Reply, Refused, Begin, Get, Set, Delete, ScanFrom, Advance, Stop, CleanBegin, CleanStep, CollectStep, Pending, Conflict, NoLock, Cleaning, Blocked, Committed, Lost, Decided, RolledForward, RolledBack, Gone, Collected, Gives, Names, Marked, IsDead, CommittedAt, IsCommitted, Cleaner, Writes, Wrote, Puts, IsSnapshot, Clashes, IsAcceptable, IsFirstRefusal, IsStorageRefusal, Acts, Step, Run, IsReached}
use Rattle.si_model.specs.declared.replies.Cell.{Cell}

-- a law of each step from a reached state
abbrev pub AtEachStep : (State → State → Type 0) → Type 0
AtEachStep Law =
    (st next : State) (q : Request) (r : Reply) → IsReached st → Step st q r next → Law st next

-- each answer is the snapshot at its session's start, in the commits as they are now (snapshot isolation)
abbrev pub IsSettled : State → Type 0
IsSettled st = (r : Read) → r ∈ st.reads → IsSnapshot st.commits r.start r.cell r.answer

-- of two commits that write one cell, one was made before the other began (snapshot isolation)
abbrev pub FirstCommitterWins : State → Type 0
FirstCommitterWins st = (a b : Commit) → a ∈ st.commits → b ∈ st.commits → a.start ≢ b.start
    → (x : Cell) → Names a.writes x → Names b.writes x → (a.stamp < b.start) ⊎ (b.stamp < a.start)

-- no start is both dead and committed, or committed twice
pub record OneFate (st : State) : Type 0 where
  pub not_both : (a : Commit) → a ∈ st.commits → ¬ IsDead st a.start
  pub not_twice : (i j : ℕ) (a b : Commit) → slice_get st.commits i ≡ Some a
      → slice_get st.commits j ≡ Some b → a.start ≡ b.start → i ≡ j

-- a cell has at most one mark
abbrev pub OneMark : State → Type 0
OneMark st = (x : Cell) (t u : ℕ) → Marked st x t → Marked st x u → t ≡ u

-- a mark that was removed doesn't come back in the same run
abbrev pub GoneForGood : State → Type 0
GoneForGood st =
    (mid end : State) (qs qs' : List Request) (rs rs' : List Reply) → Run st qs rs mid
    → Run mid qs' rs' end
    → (x : Cell) (t : ℕ) → Marked st x t → ¬ Marked mid x t → ¬ Marked end x t

-- each cell has one snapshot at a stamp
abbrev pub OneSnapshot : State → Type 0
OneSnapshot st =
    (s : ℕ) (x : Cell) (v w : Option Value) → IsSnapshot st.commits s x v
    → IsSnapshot st.commits s x w → v ≡ w

-- c is at or below the floor and each mark's start
abbrev pub IsCleared : State → ℕ → Type 0
IsCleared st c = (c ≤ st.floor) × ((x : Cell) (t : ℕ) → Marked st x t → c ≤ t)

-- a cleared stamp stays cleared
abbrev pub StaysCleared : State → Type 0
StaysCleared st =
    (end : State) (qs : List Request) (rs : List Reply) → Run st qs rs end
    → (c : ℕ) → IsCleared st c → IsCleared end c

-- bounds of the floor
pub record FloorStaysLow (st : State) : Type 0 where
  -- no active session began below it
  pub above : (t : ℕ) (p : Phase) → InPhase st t p → st.floor ≤ t
  pub low : st.floor ≤ st.top + 1
  -- no open collector has a higher one
  pub each : (i f : ℕ) → get st.collectors i ≡ Some f → f ≤ st.floor

-- a collector that ends has cleared everything below its floor
abbrev pub ClearsItsFloor : State → Type 0
ClearsItsFloor st =
    (i n f : ℕ) (next : State) → get st.collectors i ≡ Some f
    → Step st (CollectStep i n) Collected next → IsCleared next f

-- replies tell a start's fate truthfully, and after a cleaner's second step the mark is gone
pub record TellsFate (st : State) : Type 0 where
  pub committed : (t c : ℕ) (next : State) → Step st (Advance t) (Committed c) next
      → CommittedAt next t c
  pub lost : (t : ℕ) (next : State) → Step st (Advance t) Lost next → IsDead st t
  pub decided : (i : ℕ) (k : Cleaner) (next : State) → get st.cleaners i ≡ Some k
      → Step st (CleanStep i) Decided next
      → IsCommitted next k.start ⊎ IsDead next k.start
  pub rolled_forward : (i c : ℕ) (k : Cleaner) (next : State) → get st.cleaners i ≡ Some k
      → Step st (CleanStep i) (RolledForward c) next
      → CommittedAt st k.start c × (¬ Marked next k.cell k.start)
  pub rolled_back : (i : ℕ) (k : Cleaner) (next : State) → get st.cleaners i ≡ Some k
      → Step st (CleanStep i) RolledBack next
      → IsDead st k.start × (¬ Marked next k.cell k.start)
  pub gone : (i : ℕ) (k : Cleaner) (next : State) → get st.cleaners i ≡ Some k
      → Step st (CleanStep i) Gone next
      → (IsCommitted st k.start ⊎ IsDead st k.start) × (¬ Marked next k.cell k.start)

-- the cell at this place of t's writes clashes; places count from 1
abbrev pub ClashesAt : State → ℕ → ℕ → Type 0
ClashesAt st t place =
    (ws : Writes) × (k : ℕ) × (x : Cell)
    × (v : Change) × Wrote st t ws × Puts ws k x v × (place ≡ k + 1) × Clashes st x t

-- replies tell marks truthfully, and a Conflict has a mark or a commit as its cause
pub record TellsMarks (st : State) : Type 0 where
  pub pending : (s t : ℕ) (x : Cell) (next : State) → Step st (Get s x) (Pending t) next
      → Marked st x t × (t ≤ s)
  pub conflict : (t place : ℕ) (next : State) → Step st (Advance t) (Conflict place) next
      → ClashesAt st t place
  pub no_lock : (x : Cell) (next : State) → Step st (CleanBegin x) NoLock next → (t : ℕ)
      → ¬ Marked st x t
  pub cleaning : (x : Cell) (i t : ℕ) (next : State) → Step st (CleanBegin x) (Cleaning i t) next
      → (i ≡ st.next_cleaner) × Marked st x t
  pub blocked : (i n t : ℕ) (x : Cell) (next : State) → Step st (CollectStep i n) (Blocked x t) next
      → (f : ℕ) × (get st.collectors i ≡ Some f) × Marked st x t × (t < f)

-- if a refusal is the first that applies, the reply is that refusal or one of the store, and the state is unchanged
abbrev pub RefusesFirst : State → Type 0
RefusesFirst st =
    (q : Request) (r : Reply) (next : State) (n : Refusal) → IsFirstRefusal st q n
    → Step st q r next
    → (m : Refusal) × (r ≡ Refused m) × ((m ≡ n) ⊎ IsStorageRefusal m) × (next ≡ st)

-- the fate of a start shows in the mark of its first cell
pub record FateOf (st : State) (t : ℕ) (x : Cell) : Type 0 where
  pub dead : IsDead st t → ¬ Marked st x t
  pub committed : IsCommitted st t → ¬ Marked st x t
  pub marked : (y : Cell) → Marked st y t → Marked st x t ⊎ (IsCommitted st t ⊎ IsDead st t)
  pub cleaned : (i : ℕ) (k : Cleaner) → get st.cleaners i ≡ Some k → k.start ≡ t
      → Marked st x t ⊎ (IsCommitted st t ⊎ IsDead st t)

abbrev pub FateSeen : State → Type 0
FateSeen st =
    (t : ℕ) (ws : Writes) (x : Cell) (v : Change) → Wrote st t ws → Puts ws 0 x v → FateOf st t x

-- no session began above the top
abbrev pub StartsLow : State → Type 0
StartsLow st = (t : ℕ) (p : Phase) → InPhase st t p → t ≤ st.top

-- a session with a commit stamp may commit exactly if the mark of its first cell is there
abbrev pub CommitSeen : State → Type 0
CommitSeen st =
    (t c : ℕ) (ws : Writes) (x : Cell) (v : Change) → InPhase st t (Stamped c) → Wrote st t ws
    → Puts ws 0 x v
    → (Marked st x t → ¬ IsDead st t) × (¬ Marked st x t → IsDead st t)

-- Each step leaves the writes of a start that isn't open or has a mark unchanged, such a start doesn't become open
-- again, and a cleared stamp stays cleared.
pub record Goes (st st' : State) : Type 0 where
  pub wrote : (u : ℕ) (ws : Writes) → Wrote st u ws → ¬ InPhase st u Open → Wrote st' u ws
  pub marked : (x : Cell) (u : ℕ) (ws : Writes) → Marked st x u → Wrote st u ws → Wrote st' u ws
  pub late : (u : ℕ) (ws : Writes) → Wrote st u ws → ¬ InPhase st u Open → ¬ InPhase st' u Open
  pub cleared : (n : ℕ) → IsCleared st n → IsCleared st' n

-- the number of writes that a session in this phase may have
abbrev pub FitsPhase : Phase → ℕ → Type 0
FitsPhase Open n = Unit {0}
FitsPhase (Holding k) n = (1 ≤ k) × (k ≤ n)
FitsPhase (Stamped c) n = 1 ≤ n
FitsPhase (Finishing c k) n = (1 ≤ k) × (k < n)

-- the most sessions are active, or fewer
abbrev pub HasFewSessions : State → Type 0
HasFewSessions st = len st.active ≤ most_sessions

-- the bounds of a state's numbers
pub record Bounds (st : State) : Type 0 where
  pub top : st.top < end_of_stamps
  -- starts
  pub start_from : (t : ℕ) (ws : Writes) → Wrote st t ws → 1 ≤ t
  pub start_to : (t : ℕ) (ws : Writes) → Wrote st t ws → t < end_of_stamps
  pub few_writes : (t : ℕ) (ws : Writes) → Wrote st t ws → length ws ≤ most_writes
  -- sessions
  pub has_begun : (t : ℕ) (p : Phase) → InPhase st t p → (ws : Writes) × Wrote st t ws
  pub fits : (t : ℕ) (p : Phase) → InPhase st t p → (ws : Writes) → Wrote st t ws
      → FitsPhase p (length ws)
  -- commit stamps
  pub stamped_to : (t c : ℕ) → InPhase st t (Stamped c) → c < end_of_stamps
  pub finishing_to : (t c k : ℕ) → InPhase st t (Finishing c k) → c < end_of_stamps
  pub commit_to : (a : Commit) → a ∈ st.commits → a.stamp < end_of_stamps

-- a cell, and a value or a deletion, that a session may write
pub record IsWritable (x : Cell) (v : Change) : Type 0 where
  pub row : IsRow x.row
  pub family : IsFamily x.family
  pub value : (given : Value) → v ≡ Some given → length given ≤ most_value

-- sessions write only these
abbrev pub WritesWithinLimits : State → Type 0
WritesWithinLimits st =
    (t : ℕ) (ws : Writes) → Wrote st t ws → (x : Cell) (v : Change) → Gives ws x v → IsWritable x v

-- the open ones have numbers from 1 on, each below the next number
pub record AreNumbered {X : Type 0} (open_ones : FinMap nat_cmp X) (next most : ℕ) : Type 0 where
  pub first : 1 ≤ next
  pub from : (i : ℕ) (x : X) → get open_ones i ≡ Some x → 1 ≤ i
  pub below : (i : ℕ) (x : X) → get open_ones i ≡ Some x → i < next
  pub last : next ≤ end_of_stamps
  pub few : len open_ones ≤ most

-- the limits of cleaners, collectors and tablets
pub record Numbers (st : State) : Type 0 where
  pub cleaners : AreNumbered st.cleaners st.next_cleaner most_cleaners
  pub collectors : AreNumbered st.collectors st.next_collector most_collectors
  pub tablets : length st.places ≤ most_tablets

-- the requests of sessions and cleaners
abbrev pub IsOfTransactions : Request → Type 0
IsOfTransactions Begin = ⊤
IsOfTransactions (Get s x) = ⊤
IsOfTransactions (Set s x v) = ⊤
IsOfTransactions (Delete s x) = ⊤
IsOfTransactions (ScanFrom s range keys_only n) = ⊤
IsOfTransactions (Advance s) = ⊤
IsOfTransactions (Stop s) = ⊤
IsOfTransactions (CleanBegin x) = ⊤
IsOfTransactions (CleanStep i) = ⊤
IsOfTransactions _ = ⊥

-- a request of a session or cleaner to which no refusal applies has an answer other than a refusal, as long as there
-- are stamps and numbers
abbrev pub IsNeverStuck : State → Type 0
IsNeverStuck st =
    (q : Request) → IsOfTransactions q → IsAcceptable st q → st.top + 1 < end_of_stamps
    → st.next_cleaner < end_of_stamps
    → (r : Reply) × (next : State) × Acts st q r next
