use Rattle.std.proofs.Common.{Some, List, ℕ, ap, ◌∙◌, arith}
use Rattle.std.proofs.lemmas.List.{length-map}
use Rattle.memtable.specs.declared.entries.Slot.{Slot}
use Rattle.memtable.specs.Slots.{slot_entry, slot_entries, one_value}
use Rattle.memtable.specs.Blocks.{list_of}
use Rattle.memtable.specs.Sizes.{entry_size, stood_size}
use Rattle.memtable.proofs.EntryLists.{count-put}
use Rattle.memtable.proofs.Values.{one_at_most, value_count-within}
use Rattle.memtable.proofs.blocks.put_in.Goals as goal

pub overflow_add-block : goal.overflow_add-block
overflow_add-block c =
    let counted = c.requires.counted in
    let within = value_count-within (list_of c.args.block.now) in
    let same = length-map c.args.block.now.slots.items (λ slot. slot_entry slot.value) in
    let len = c.args.block.now.slots.ok.0 in
    let few = c.requires.few in
    let one = c.value_count.ensures in
    let most = one_at_most (slot_entry c.deref.result.now).1 in
    omega (arith, counted, within, same, len, few, one, most)

pub overflow_sub-block : goal.overflow_sub-block
overflow_sub-block c =
    let slot = slot_entry c.args.slot.value in
    let made = count-put slot.0 slot.1 (list_of c.args.block.now) (slot_entries c.put_at.new.slots.items) _ c.requires.rising c.put_at.ensures.entries c.in-Some.ensures.replaced in
    let one = c.value_count.ensures ∙ ap (λ (s : Slot). one_value (slot_entry s).1) c.deref.ensures in
    let gone = c.value_count-in-Some.ensures ∙ ap (λ (s : Slot). one_value (slot_entry s).1) c.deref-in-Some.ensures in
    let counted = c.requires.counted in
    omega (arith, made, one, gone, counted)

pub returns-in-Some-clause-replaced : goal.returns-in-Some-clause-replaced
returns-in-Some-clause-replaced c =
    let name = c.args.slot.value.text in
    let old = ap slot_entry c.deref-in-Some-2.ensures in
    ap Some (c.size.ensures ∙ ap entry_size old ∙ ap (λ (n : List ℕ). entry_size (n, (slot_entry c.in-Some.old.value).1)) c.in-Some.ensures.named)
    ∙ ap (stood_size name) c.in-Some.ensures.replaced

pub returns-in-None-clause-replaced : goal.returns-in-None-clause-replaced
returns-in-None-clause-replaced c = ap (stood_size c.args.slot.value.text) c.in-None.ensures.replaced

pub returns-in-Some-clause-counted : goal.returns-in-Some-clause-counted
returns-in-Some-clause-counted c =
    let slot = slot_entry c.args.slot.value in
    let made = count-put slot.0 slot.1 (list_of c.args.block.now) (slot_entries c.put_at.new.slots.items) _ c.requires.rising c.put_at.ensures.entries c.in-Some.ensures.replaced in
    let one = c.value_count.ensures ∙ ap (λ (s : Slot). one_value (slot_entry s).1) c.deref.ensures in
    let gone = c.value_count-in-Some.ensures ∙ ap (λ (s : Slot). one_value (slot_entry s).1) c.deref-in-Some.ensures in
    let counted = c.requires.counted in
    omega (arith, made, one, gone, counted)

pub returns-in-None-clause-counted : goal.returns-in-None-clause-counted
returns-in-None-clause-counted c =
    let slot = slot_entry c.args.slot.value in
    let none = rw c.in-None.is at c.put_at.ensures.replaced in
    let made = count-put slot.0 slot.1 (list_of c.args.block.now) (slot_entries c.put_at.new.slots.items) _ c.requires.rising c.put_at.ensures.entries none in
    let one = c.value_count.ensures ∙ ap (λ (s : Slot). one_value (slot_entry s).1) c.deref.ensures in
    let counted = c.requires.counted in
    omega (arith, made, one, counted)
