use Rattle.std.proofs.Common.{◌≢◌, Some, None, refl, sym, ap, ◌∙◌}
use Rattle.cell_key.specs.Cells.{after_edit, edited_key}
use Rattle.cell_key.specs.declared.edits.Edit.{Edit}
use Rattle.rows.specs.Slots.{slot_cells}
use Rattle.rows.proofs.SlotLemmas.{cells_after_fill, cells_after_none, elsewhere}
use Rattle.rows.proofs.slots.write.Goals as goal

pub returns-in-Put-clause-cells : goal.returns-in-Put-clause-cells
returns-in-Put-clause-cells c =
    cells_after_fill c.args.slots.now.entries c.set_slot.new.slots.entries c.in-Put.key c.in-Put.value c.set_slot.ensures.set.0
    ∙ ap (after_edit (slot_cells c.args.slots.now.entries)) (sym c.in-Put.is)

pub returns-in-Erase-clause-cells : goal.returns-in-Erase-clause-cells
returns-in-Erase-clause-cells c =
    cells_after_none c.args.slots.now.entries c.set_slot-in-Erase.new.slots.entries c.in-Erase.key (Some None) refl c.set_slot-in-Erase.ensures.set.0
    ∙ ap (after_edit (slot_cells c.args.slots.now.entries)) (sym c.in-Erase.is)

pub returns-in-Erase-clause-empties : goal.returns-in-Erase-clause-empties
returns-in-Erase-clause-empties c q apart empty =
    let differs : c.in-Erase.key ≢ q = λ e. apart (ap (λ (edit : Edit). edited_key edit) c.in-Erase.is ∙ e) in
    sym (elsewhere c.args.slots.now.entries c.set_slot-in-Erase.new.slots.entries c.in-Erase.key (Some None) c.set_slot-in-Erase.ensures.set.0 q differs) ∙ empty
