-- so far each place is next after the one before it
use Rattle.std.proofs.Common.{◌≤◌, ◌-◌, length, option_map}
use Rattle.cell_key.specs.Places.{AreNextCells, place_named}
use Rattle.rows.specs.Slots.{slot_cells}
use Rattle.rows.proofs.slots.next_cells.Given as goal

abbrev pub invariant-wanted : goal.invariant-wanted
invariant-wanted l = record {
  few : length l.found.items ≤ l.most;
  next : AreNextCells (slot_cells l.slots.entries) (option_map place_named l.after) (length l.found.items) l.found.items;
}

abbrev pub decreases-wanted : goal.decreases-wanted
decreases-wanted l = l.most - length l.found.items
