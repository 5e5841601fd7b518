-- The last key of the cell is before all keys after the cell.
use Rattle.std.proofs.Common.{ap}
use Rattle.std.specs.declared.ops.Bound.TheVariants.{Excluded}
use Rattle.cell_key.specs.declared.keys.CellKey.{CellKey}
use Rattle.rows.proofs.slots.start_after.Goals as goal

pub returns-in_ok-last-in-Some : goal.returns-in_ok-last-in-Some
returns-in_ok-last-in-Some c = rw (c.in-Some.is) (ap (λ (key : CellKey). Excluded key) c.in_ok-last-in-Some.ensures.key)
