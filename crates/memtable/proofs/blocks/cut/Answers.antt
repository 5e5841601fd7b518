use Rattle.std.proofs.Common.{◌≡◌, ◌++◌, ap, ◌∙◌, arith}
use Rattle.std.proofs.lemmas.List.{map-append}
use Rattle.memtable.specs.Slots.{slot_entry, slot_entries, value_count}
use Rattle.memtable.specs.Blocks.{list_of}
use Rattle.memtable.proofs.Values.{value_count-++}
use Rattle.memtable.proofs.blocks.cut.Goals as goal

pub returns-clause-entries : goal.returns-clause-entries
returns-clause-entries c = ap slot_entries c.halve.ensures.halves ∙ map-append (λ (s : _). slot_entry s.value) c.halve.new.slots.items c.halve.new.upper.items

pub overflow_sub-block : goal.overflow_sub-block
overflow_sub-block c =
    let lower = slot_entries c.halve.new.slots.items in
    let upper = slot_entries c.halve.new.upper.items in
    let halves : list_of c.args.block.now ≡ lower ++ upper = ap slot_entries c.halve.ensures.halves ∙ map-append (λ (s : _). slot_entry s.value) c.halve.new.slots.items c.halve.new.upper.items in
    let counts = ap value_count halves ∙ value_count-++ lower upper in
    let moved = c.value_count-values.ensures ∙ ap (λ (xs : _). value_count (slot_entries xs)) c.deref.ensures.value in
    let whole = c.requires.counted in
    omega (arith, counts, moved, whole)

pub returns-clause-lower : goal.returns-clause-lower
returns-clause-lower c =
    let lower = slot_entries c.halve.new.slots.items in
    let upper = slot_entries c.halve.new.upper.items in
    let halves : list_of c.args.block.now ≡ lower ++ upper = ap slot_entries c.halve.ensures.halves ∙ map-append (λ (s : _). slot_entry s.value) c.halve.new.slots.items c.halve.new.upper.items in
    let counts = ap value_count halves ∙ value_count-++ lower upper in
    let moved = c.value_count-values.ensures ∙ ap (λ (xs : _). value_count (slot_entries xs)) c.deref.ensures.value in
    let whole = c.requires.counted in
    let len = c.halve.ensures.lower in
    let ok = c.args.block.now.slots.ok.1 in
    let full = c.requires.full in
    let capacity = c.halve.ensures.capacity in
    record {
      some = omega (arith, len);
      few = omega (arith, len);
      room = omega (arith, ok, full, capacity);
      counted = omega (arith, counts, moved, whole);
    }
