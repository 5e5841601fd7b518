use Rattle.std.proofs.Common.{◌≡◌, ◌-◌}
use Rattle.rows.specs.Calls.{OnlyReads}
use Rattle.txn_client.specs.Gathering.{Gathers, IsInLimits}
use Rattle.txn_client.specs.Ranges.{range_named}
use Rattle.txn_client.specs.Scans.{IsScanReadable}
use Rattle.txn_client.proofs.scan.Scan.run.Given as goal

-- the scan's items are right for the cells
abbrev pub invariant-loop-gathered : goal.invariant-loop-gathered
invariant-loop-gathered g l = record {
  limits : IsInLimits l.gathered;
  cells : l.gathered.cells ≡ l.cells;
  gathers : IsScanReadable g.R.Rows.seen l.fn.rows (range_named l.fn.self.range) → Gathers (g.R.Rows.seen.cells l.fn.rows) l.fn.self l.gathered;
  reads : OnlyReads g.R.Rows.seen l.fn.rows l.rows;
  faults : g.R.Rows.faults l.rows ≡ g.R.Rows.faults l.fn.rows;
}

abbrev pub decreases-loop-gathered : goal.decreases-loop-gathered
decreases-loop-gathered g l = l.gathered.cells - l.gathered.looked
