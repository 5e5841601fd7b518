use Rattle.std.proofs.Common.{◌≡◌}
use Rattle.rows.specs.Calls.{OnlyReads}
use Rattle.txn_client.specs.Takings.{AreFree, AreReadable}
use Rattle.txn_client.proofs.takings.first_taken.Given as goal

-- the cells so far are free
abbrev pub invariant-loop-index : goal.invariant-loop-index
invariant-loop-index g l = record {
  free : AreReadable g.R.Rows.seen l.fn.rows l.writes → AreFree (g.R.Rows.seen.cells l.fn.rows) l.start l.writes l.index;
  reads : OnlyReads g.R.Rows.seen l.fn.rows l.rows;
  faults : g.R.Rows.faults l.rows ≡ g.R.Rows.faults l.fn.rows;
}
