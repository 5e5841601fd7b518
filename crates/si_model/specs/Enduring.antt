-- Effects of steps on marks and fates on which cleaners and collectors rely, whoever takes the step.
use Rattle.std.specs.Prelude.{◌≡◌, ℕ, ◌<◌, ◌≤◌, ◌⊎◌, Some}
use Rattle.std.specs.FinMap.{get}
use Rattle.si_model.specs.Sets.{◌∈◌}
use Rattle.si_model.specs.State.{State, Change, Writes, Phase, Open, Holding, Stamped, Finishing, Commit, Cleaner, InPhase, Wrote, Puts, Marked, IsDead}
use Rattle.si_model.specs.declared.replies.Cell.{Cell}

-- the session has gone past its k-th cell, counted from 0
abbrev pub IsPast : Phase → ℕ → Type 0
IsPast Open k = ⊥
IsPast (Holding n) k = k < n
IsPast (Stamped c) k = Unit {0}
IsPast (Finishing c n) k = Unit {0}

-- t has had its chance to mark x: x is among its cells, and t has passed it or has ended
pub record HasTried (st : State) (x : Cell) (t : ℕ) : Type 0 where
  pub ws : Writes
  pub k : ℕ
  pub v : Change
  pub wrote : Wrote st t ws
  pub puts : Puts ws k x v
  pub past : (p : Phase) → InPhase st t p → IsPast p k

-- the start of each mark has had its chance at the mark's cell, and the start of each open cleaner at the cleaner's
-- cell
pub record HaveTried (st : State) : Type 0 where
  pub marked : (x : Cell) (t : ℕ) → Marked st x t → HasTried st x t
  pub cleaned : (i : ℕ) (k : Cleaner) → get st.cleaners i ≡ Some k → HasTried st k.cell k.start

-- a mark that was removed never comes back, since its start has had its chance; and each fate is final
pub record Endures (st next : State) : Type 0 where
  pub tried : (x : Cell) (t : ℕ) → HasTried st x t → HasTried next x t
  pub gone : (x : Cell) (t : ℕ) → HasTried st x t → Marked next x t → Marked st x t
  -- an added mark is at or above the floor
  pub joins : (x : Cell) (t : ℕ) → Marked next x t → Marked st x t ⊎ (st.floor ≤ t)
  pub committed : (a : Commit) → a ∈ st.commits → a ∈ next.commits
  pub dead : (t : ℕ) → IsDead st t → IsDead next t
