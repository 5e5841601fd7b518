use Rattle.std.proofs.Common.{Some, None, sym, ap, ◌∙◌}
use Rattle.memtable.specs.Slots.{slot_entry}
use Rattle.memtable.specs.Edits.{edit_entry}
use Rattle.memtable.proofs.staging.slot_of.Goals.{in-Put+in_ok-text_of-in-Put, in-Erase+in_ok-text_of-in-Erase}
use Rattle.memtable.proofs.staging.slot_of.Goals as goal

pub returns-clause-entry : goal.returns-clause-entry
returns-clause-entry c =
    ap slot_entry c.in_ok-new.ensures.ok
    ∙ elim c.match-edit.branch [
      | in-Put+in_ok-text_of-in-Put w ↦ ap slot_entry w.slot-is ∙ ap (λ text. (text, Some w.in-Put.value.items)) w.in_ok-text_of-in-Put.ensures.text ∙ ap edit_entry (sym w.in-Put.is)
      | in-Erase+in_ok-text_of-in-Erase w ↦ ap slot_entry w.slot-is ∙ ap (λ text. (text, None)) w.in_ok-text_of-in-Erase.ensures.text ∙ ap edit_entry (sym w.in-Erase.is)
    ]
