-- The fate of a start, as its first cell shows it, and a cleaner's knowledge of it.
use Rattle.std.specs.Prelude.{◌≡◌, ℕ, ◌<◌, ◌⊎◌, Some, None}
use Rattle.std.specs.FinMap.{get}
use Rattle.cell_key.specs.Cells.{Cells}
use Rattle.cell_key.specs.declared.keys.Qualifier.TheVariants.{Lock}
use Rattle.si_model.specs.State.{State, Cleaner, Marked, IsDead, CommittedAt, IsCommitted}
use Rattle.si_model.specs.declared.replies.Cell.{Cell}
use Rattle.si_model.specs.ShowsCells.{at, IsThere, IsFirstCell, NamesAt}

-- The first cell of a start tells its fate. (Percolator, clean-up of locks: the primary.)
pub record TellsFirst (cells : Cells) (st : State) (t : ℕ) (first : Cell) : Type 0 where
  -- its lock is there: it has no fate yet
  pub locked : IsThere cells first Lock t → (¬ IsCommitted st t) × (¬ IsDead st t)
  -- its lock is gone: if a cleaner clears the start, it was committed or rolled back
  pub unlocked : at cells first Lock t ≡ None → (i : ℕ) (k : Cleaner) → get st.cleaners i ≡ Some k
      → k.start ≡ t → IsCommitted st t ⊎ IsDead st t
  -- a record names it: it was committed there
  pub forward : (c : ℕ) → NamesAt cells first c t → CommittedAt st t c
  -- Its lock is gone and no record names it: it was rolled back, as long as any mark of it is left. (Its record could
  -- have been collected, but not while a mark is left: a record is collected only if it, or a later one, is at or below
  -- each mark.)
  pub back : at cells first Lock t ≡ None
      → ((c : ℕ) → t < c → ¬ NamesAt cells first c t)
      → (x : Cell) → Marked st x t → IsDead st t

abbrev pub FirstTells : Cells → State → Type 0
FirstTells cells st = (t : ℕ) (first : Cell) → IsFirstCell st t first → TellsFirst cells st t first

-- a cleaner's verdict on a start's fate: none yet, its commit stamp, or that it was rolled back
pub data Verdict : Type 0 where
  NotYet : Verdict
  Forward : (stamp : ℕ) → Verdict
  Back : Verdict

-- the verdict is right
abbrev pub IsRight : State → ℕ → Verdict → Type 0
IsRight st t NotYet = Unit {0}
IsRight st t (Forward c) = CommittedAt st t c
IsRight st t Back = IsDead st t

-- a cleaner of t's mark on x knows t's first cell, and a verdict that is right as long as the mark is there
pub record Knows (st : State) (x : Cell) (t : ℕ) (first : Cell) (verdict : Verdict) : Type 0 where
  pub is_first : IsFirstCell st t first
  pub right : Marked st x t → IsRight st t verdict

-- the knowledge of each open cleaner stays right
abbrev pub CleanersKnow : State → State → Type 0
CleanersKnow st next =
    (i : ℕ) (k : Cleaner) (first : Cell) (verdict : Verdict) → get st.cleaners i ≡ Some k
    → Knows st k.cell k.start first verdict → Knows next k.cell k.start first verdict
