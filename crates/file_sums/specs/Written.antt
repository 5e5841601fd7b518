-- A file of format 3 that is being written.
use Rattle.std.specs.Prelude.{ℕ, List}

-- the file below, its number, how many pieces were pushed, and the payload behind them
pub record WritingState (W : Type 0) : Type 0 where
  pub file : W
  pub name : ℕ
  pub count : ℕ
  pub waiting : List ℕ
