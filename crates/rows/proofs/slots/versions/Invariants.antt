-- so far these are the newest versions, if the ones from the last stamp down are appended
use Rattle.std.proofs.Common.{◌≤◌, ◌-◌, length, map}
use Rattle.std.specs.List.{AllByRecursion}
use Rattle.cell_key.specs.Cells.{version}
use Rattle.cell_key.specs.Versions.{IsVersion, stamped}
use Rattle.rows.specs.Slots.{slot_cells}
use Rattle.rows.proofs.NewestLists.{AreFollowed}
use Rattle.rows.proofs.slots.versions.Given as goal

abbrev pub invariant-wanted : goal.invariant-wanted
invariant-wanted l = record {
  few : length l.found.items ≤ l.most;
  limits : AllByRecursion (λ version. IsVersion version.0 version.1.items) l.found.items;
  newest : AreFollowed (slot_cells l.slots.entries) (version l.row l.family l.qualifier) l.hi l.most l.last (l.most - length l.found.items) (map stamped l.found.items);
}

abbrev pub decreases-wanted : goal.decreases-wanted
decreases-wanted l = l.most - length l.found.items
