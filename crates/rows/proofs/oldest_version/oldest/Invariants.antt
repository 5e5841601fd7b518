use Rattle.std.proofs.Common.{◌≡◌, ◌-◌, ◌≤◌}
use Rattle.cell_key.specs.Cells.{version}
use Rattle.cell_key.specs.Versions.{IsVersionIn, stamped}
use Rattle.rows.specs.Calls.{OnlyReads}
use Rattle.rows.proofs.Halves.{IsRest}
use Rattle.rows.proofs.oldest_version.oldest.Given as goal

-- `found` is a version, and the oldest one is between `low` and it
abbrev pub invariant-loop-low : goal.invariant-loop-low
invariant-loop-low g l = record {
  reads : OnlyReads g.R.Rows.seen l.fn.rows l.rows;
  faults : g.R.Rows.faults l.rows ≡ g.R.Rows.faults l.fn.rows;
  limits : IsVersionIn l.lo l.hi (stamped l.found);
  from : l.lo ≤ l.low;
  to : l.low ≤ l.found.0;
  rest : g.R.Rows.seen.readable l.fn.rows l.row → IsRest (g.R.Rows.seen.cells l.fn.rows) (version l.row l.family l.qualifier) l.lo l.low (stamped l.found);
}

abbrev pub decreases-loop-low : goal.decreases-loop-low
decreases-loop-low g l = l.found.0 - l.low
