-- The invariant of every reached state.
use Rattle.std.proofs.Common.{◌≡◌, ◌≢◌, ℕ, ◌<◌, ◌≤◌, true, List, [], ◌∷◌, Option, Some, ◌⊎◌}
use Rattle.std.specs.FinMap.{get}
use Rattle.si_model.specs.Sets.{◌∈◌}
use Rattle.si_model.specs.Machine.{State, Change, Writes, Phase, Stamped, Finishing, Commit, Read, Item, Locked, Scan, Cleaner, InPhase, Wrote, Marked, Puts, Names, IsDead, CommittedAt, IsCommitted}
use Rattle.si_model.specs.declared.replies.Cell.{Cell}
pub use Rattle.si_model.specs.Enduring.{IsPast, HasTried}
use Rattle.si_model.specs.Laws.{IsSettled, FirstCommitterWins, OneMark}
use Rattle.si_model.specs.ScanLaws.{SaysOf, ScansSettled}
use Rattle.si_model.proofs.Tools.{CellsDiffer}

-- the session has yet to commit
abbrev pub IsLive : Phase → Type 0
IsLive (Finishing c k) = ⊥
IsLive p = Unit {0}

-- c is the commit stamp that t alone has drawn
pub record IsOwn (st : State) (t c : ℕ) : Type 0 where
  pub later : t < c
  pub low : c ≤ st.top
  pub no_start : (u : ℕ) (ws : Writes) → Wrote st u ws → u ≢ c
  pub no_commit : (a : Commit) → a ∈ st.commits → a.stamp ≢ c
  pub no_other : (u : ℕ) → InPhase st u (Stamped c) → u ≡ t

pub record IsFair (st : State) (a : Commit) : Type 0 where
  pub wrote : Wrote st a.start a.writes
  pub later : a.start < a.stamp
  pub low : a.stamp ≤ st.top
  pub no_start : (u : ℕ) (ws : Writes) → Wrote st u ws → u ≢ a.stamp

abbrev pub StartsDiffer : List Commit → Type 0
StartsDiffer [] = Unit {0}
StartsDiffer (a ∷ rest) = ((b : Commit) → b ∈ rest → b.start ≢ a.start) × StartsDiffer rest

-- a scan answers for x, which no mark blocked
pub record SaysThere (scan : Scan) (x : Cell) : Type 0 where
  pub said : Option Item
  pub is : SaysOf scan x said
  pub free : (t : ℕ) → said ≢ Some (Locked t)

-- a Get with this start and cell was answered, or a scan gave an unblocked answer for the cell
abbrev pub Told : State → Read → Type 0
Told st r =
    (r ∈ st.reads) ⊎ ((scan : Scan) × (scan ∈ st.scans) × SaysThere scan r.cell × (r.start ≡ scan.start))

pub record Sound (st : State) : Type 0 where
  -- starts
  pub start_low : (t : ℕ) (ws : Writes) → Wrote st t ws → t ≤ st.top
  pub cells_differ : (t : ℕ) (ws : Writes) → Wrote st t ws → CellsDiffer ws
  -- sessions
  pub has_begun : (t : ℕ) (p : Phase) → InPhase st t p → (ws : Writes) × Wrote st t ws
  pub uncommitted : (t : ℕ) (p : Phase) → InPhase st t p → IsLive p → (a : Commit) → a ∈ st.commits → a.start ≢ t
  -- the marks of a live session are there, unless it is dead
  pub stands : (t : ℕ) (p : Phase) → InPhase st t p → IsLive p → (ws : Writes) → Wrote st t ws
      → IsDead st t ⊎ ((k : ℕ) (x : Cell) (v : Change) → Puts ws k x v → IsPast p k → Marked st x t)
  pub drawn : (t : ℕ) (p : Phase) → InPhase st t p → (c : ℕ) → p ≡ Stamped c → IsOwn st t c
  pub finishes : (t : ℕ) (p : Phase) → InPhase st t p → (c k : ℕ) → p ≡ Finishing c k → CommittedAt st t c
  -- marks
  pub placed : (x : Cell) (t : ℕ) → Marked st x t → HasTried st x t
  pub one_mark : OneMark st
  -- a mark is younger than each commit of its cell other than its own
  pub younger : (x : Cell) (t : ℕ) → Marked st x t → (a : Commit) → a ∈ st.commits → a.start ≢ t → Names a.writes x → a.stamp < t
  -- commits
  pub fair : (a : Commit) → a ∈ st.commits → IsFair st a
  pub starts_differ : StartsDiffer st.commits
  pub stamps_differ : (a b : Commit) → a ∈ st.commits → b ∈ st.commits → a.stamp ≡ b.stamp → a.start ≡ b.start
  pub not_dead : (a : Commit) → a ∈ st.commits → ¬ IsDead st a.start
  pub first_committer : FirstCommitterWins st
  -- reads
  pub read_low : (r : Read) → Told st r → r.start ≤ st.top
  pub settled : IsSettled st
  pub scans_settled : ScansSettled st
  -- a session that has drawn its stamp below a read and writes its cell never commits
  pub unread : (r : Read) → Told st r → (t : ℕ) (p : Phase) → InPhase st t p → (c : ℕ) → p ≡ Stamped c → (ws : Writes) → Wrote st t ws
      → Names ws r.cell → c ≤ r.start → IsDead st t
  -- cleaners
  pub decided : (i : ℕ) (k : Cleaner) → get st.cleaners i ≡ Some k → k.decided ≡ true → IsCommitted st k.start ⊎ IsDead st k.start
