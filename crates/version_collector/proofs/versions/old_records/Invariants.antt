use Rattle.std.proofs.Common.{◌≤◌, ◌+◌, length, map}
use Rattle.std.specs.List.{AllByRecursion}
use Rattle.cell_key.specs.Versions.{IsVersion, stamped}
use Rattle.version_collector.specs.Versions.{AreShown}
use Rattle.version_collector.proofs.Starts.{HasOlder}
use Rattle.version_collector.proofs.versions.old_records.Given as goal

-- the records found are old ones, and the remaining ones follow them
abbrev pub invariant-records : goal.invariant-records
invariant-records g l = record {
  few : length l.found.items + length l.rest ≤ 128;
  limits : AllByRecursion (λ version. IsVersion version.0 version.1.items) l.rest;
  old : g.R.Rows.seen.readable l.fn.rows l.cell.row → AreShown (g.R.Rows.seen.cells l.fn.rows) → HasOlder (g.R.Rows.seen.cells l.fn.rows) l.cell l.floor l.from l.found.items (map stamped l.rest);
}

abbrev pub decreases-records : goal.decreases-records
decreases-records g l = length l.rest
