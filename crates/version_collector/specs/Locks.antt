-- Locks below a floor.
use Rattle.std.specs.Prelude.{◌≡◌, ℕ, ◌<◌, Option, Some, None}
use Rattle.cell_key.specs.Cells.{Cells}
use Rattle.cell_key.specs.declared.keys.Qualifier.TheVariants as column
use Rattle.si_model.specs.ShowsCells.{at, IsThere}
use Rattle.si_model.specs.declared.replies.Cell.{Cell}

-- a lock of x below the floor; None if x has no such lock
abbrev pub IsLowLock : Cells → Cell → ℕ → Option ℕ → Type 0
IsLowLock cells x floor None = (t : ℕ) → t < floor → at cells x column.Lock t ≡ None
IsLowLock cells x floor (Some t) = IsThere cells x column.Lock t × (t < floor)
