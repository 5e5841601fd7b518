-- so far the cells are at the places, with their newest versions
use Rattle.std.proofs.Common.{◌≡◌, take}
use Rattle.std.specs.List.{AllByRecursion}
use Rattle.rows.specs.Batches.{HasNewest, places_in}
use Rattle.rows.specs.Slots.{slot_cells}
use Rattle.rows.proofs.slots.next_versions.Given as goal

abbrev pub invariant-loop-place : goal.invariant-loop-place
invariant-loop-place l = record {
  places : places_in l.cells.items ≡ take l.place-index l.place-items;
  newest : AllByRecursion (HasNewest (slot_cells l.slots.entries) l.hi) l.cells.items;
}
