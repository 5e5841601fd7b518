use Rattle.std.proofs.Common.{ap, ◌∙◌, arith}
use Rattle.std.proofs.lemmas.List.{length-map}
use Rattle.memtable.specs.declared.entries.Slot.{Slot}
use Rattle.memtable.specs.Slots.{slot_entry, slot_entries, one_value, value_count}
use Rattle.memtable.proofs.Values.{value_count-within}
use Rattle.memtable.proofs.entries.value_count.Goals as goal

pub overflow_add-count : goal.overflow_add-count
overflow_add-count c =
    let counted = c.slots.invariant in
    let one = c.value_count-count.ensures ∙ ap (λ (s : Slot). one_value (slot_entry s).1) c.deref.ensures in
    let rest = ap (λ (xs : _). value_count (slot_entries xs)) c.in-Some.ensures.cases.0 in
    let within = value_count-within (slot_entries c.args.slots.now) in
    let len = length-map c.args.slots.now (λ slot. slot_entry slot.value) in
    let few = c.requires in
    omega (arith, counted, one, rest, within, len, few)
