use Rattle.std.proofs.Common.{◌≡◌, ◌≤◌, length, vec_len}
use Rattle.rows.specs.Calls.{OnlyReads}
use Rattle.version_collector.specs.Versions.{AreNamedFrom, AreNear, AreShown, HasOneRecord, IsUnnamed}
use Rattle.version_collector.proofs.Greatest.{AreAll}
use Rattle.version_collector.proofs.versions.unnamed_data.Given as goal

-- all such data from this stamp on was found
abbrev pub invariant-loop-near : goal.invariant-loop-near
invariant-loop-near g l = record {
  reads : OnlyReads g.R.Rows.seen l.fn.rows l.rows;
  faults : g.R.Rows.faults l.rows ≡ g.R.Rows.faults l.fn.rows;
  len : vec_len l.found ≡ length l.found.items;
  few : length l.found.items ≤ 256;
  low : l.below ≤ l.floor;
  all : g.R.Rows.seen.readable l.fn.rows l.cell.row → AreShown (g.R.Rows.seen.cells l.fn.rows) → HasOneRecord (g.R.Rows.seen.cells l.fn.rows) l.cell l.floor
      → AreNear (g.R.Rows.seen.cells l.fn.rows) l.cell l.floor l.near → AreNamedFrom (g.R.Rows.seen.cells l.fn.rows) l.cell l.floor l.from → AreAll (IsUnnamed (g.R.Rows.seen.cells l.fn.rows) l.cell l.floor) l.below l.found.items;
}

abbrev pub decreases-loop-near : goal.decreases-loop-near
decreases-loop-near g l = l.below
