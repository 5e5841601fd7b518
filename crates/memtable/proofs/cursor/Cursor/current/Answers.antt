use Rattle.std.proofs.Common.{Some, option_map, sym, ap, ◌∙◌}
use Rattle.std.specs.Borrow.{Bor}
use Rattle.cell_key.specs.Entries.{lent_entry}
use Rattle.memtable.specs.declared.entries.Slot.{Slot}
use Rattle.memtable.specs.Slots.{slot_entry}
use Rattle.memtable.proofs.cursor.Cursor.current.Goals as goal

pub returns-in_err-slot : goal.returns-in_err-slot
returns-in_err-slot c =
    ap (option_map lent_entry) c.from_residual.ensures
    ∙ ap (option_map (λ (s : Bor Slot). slot_entry s.now)) (sym c.in_err-slot.was) ∙ ap (λ cursor. cursor.0) c.self.view_is

pub returns : goal.returns
returns c =
    ap Some c.lend.ensures
    ∙ ap (option_map (λ (s : Bor Slot). slot_entry s.now)) (sym c.in_ok-slot.was) ∙ ap (λ cursor. cursor.0) c.self.view_is
