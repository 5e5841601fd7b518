use Rattle.std.proofs.Common.{ap, ◌∙◌}
use Rattle.memtable.specs.Slots.{slot_entry, slot_entries, first_value}
use Rattle.memtable.specs.Blocks.{block_entries}
use Rattle.memtable.proofs.Values.{back_value, front_value}
use Rattle.memtable.proofs.blocks.first_value_from.Goals as goal

pub returns-in-Some : goal.returns-in-Some
returns-in-Some g c =
    let found = rw c.in-Some.is at c.first_value.ensures in
    front_value (slot_entries c.rest_from.result.0.now) (block_entries c.rest_from.result.1.now) (slot_entry c.in-Some.slot.now) found
    ∙ ap first_value c.rest_from.ensures.entries

pub returns-in-None : goal.returns-in-None
returns-in-None g c =
    let none = rw c.in-None.is at c.first_value.ensures in
    c.first_value-in-None.ensures
    ∙ back_value (slot_entries c.rest_from.result.0.now) (block_entries c.rest_from.result.1.now) none
    ∙ ap first_value c.rest_from.ensures.entries
