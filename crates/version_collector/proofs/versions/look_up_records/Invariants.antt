use Rattle.std.proofs.Common.{◌≡◌, ◌≤◌, ◌-◌, length, map}
use Rattle.std.specs.List.{AllByRecursion}
use Rattle.cell_key.specs.Versions.{IsVersion, stamped}
use Rattle.cell_key.specs.declared.keys.Qualifier.TheVariants.{Write}
use Rattle.rows.specs.Calls.{OnlyReads}
use Rattle.rows.proofs.NewestLists.{AreFollowed}
use Rattle.si_model.specs.ShowsCells.{key_of}
use Rattle.version_collector.proofs.versions.look_up_records.Given as goal

-- these records are the newest so far, and the records from the last stamp down follow them
abbrev pub invariant-records : goal.invariant-records
invariant-records g l = record {
  reads : OnlyReads g.R.Rows.seen l.fn.rows l.rows;
  faults : g.R.Rows.faults l.rows ≡ g.R.Rows.faults l.fn.rows;
  few : length l.found.items ≤ 32;
  limits : AllByRecursion (λ version. IsVersion version.0 version.1.items) l.found.items;
  newest : g.R.Rows.seen.readable l.fn.rows l.cell.row → AreFollowed (g.R.Rows.seen.cells l.fn.rows) (key_of l.cell Write) l.hi 32 l.last (32 - length l.found.items) (map stamped l.found.items);
}

abbrev pub decreases-records : goal.decreases-records
decreases-records g l = 32 - length l.found.items
