-- so far the bytes of these cells are subtracted
use Rattle.std.proofs.Common.{◌≡◌, ◌-◌, take}
use Rattle.rows.specs.Batches.{bytes_in}
use Rattle.rows.proofs.batches.BatchLimits.after.Given as goal

abbrev pub invariant-loop-cell : goal.invariant-loop-cell
invariant-loop-cell l = l.bytes ≡ l.fn.self.bytes - bytes_in (take l.cell-index l.cells)
