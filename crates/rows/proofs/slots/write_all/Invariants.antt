use Rattle.std.proofs.Common.{◌≡◌, ◌≢◌, Some, None}
use Rattle.std.specs.List.{AllByRecursion}
use Rattle.std.specs.Vec.Iter.{into_iter_items}
use Rattle.cell_key.specs.Cells.{after_edits, edited_key}
use Rattle.cell_key.specs.declared.keys.CellKey.{CellKey}
use Rattle.rows.specs.Slots.{slot_cells, slot_at, HasEdited}
use Rattle.rows.proofs.slots.write_all.Given as goal

-- the remaining edits give the same cells as all edits, have slots, and only their slots become empty
abbrev pub invariant-loop-edit : goal.invariant-loop-edit
invariant-loop-edit l =
    record {
      cells : after_edits (slot_cells l.slots.entries) (into_iter_items l.edit-iterator) ≡ after_edits (slot_cells l.fn.slots.entries) l.fn.edits.items;
      slots : AllByRecursion (HasEdited l.slots.entries) (into_iter_items l.edit-iterator);
      empties : (q : CellKey) → AllByRecursion (λ edit. edited_key edit ≢ q) l.fn.edits.items → AllByRecursion (λ edit. edited_key edit ≢ q) (into_iter_items l.edit-iterator) × (slot_at l.slots.entries q ≡ Some None → slot_at l.fn.slots.entries q ≡ Some None);
    }
