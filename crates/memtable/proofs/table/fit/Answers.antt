use Rattle.std.proofs.Common.{refl, arith}
use Rattle.std.proofs.lemmas.List.{length-map}
use Rattle.memtable.specs.Slots.{slot_entry, slot_entries}
use Rattle.memtable.specs.Blocks.{block_entries}
use Rattle.memtable.proofs.Sizes.{over_len, over_bytes}
use Rattle.memtable.proofs.table.fit.Goals as goal

pub returns-then-has_room : goal.returns-then-has_room
returns-then-has_room c =
    let staged = slot_entries c.args.staged.now in
    let base = block_entries c.args.table.now in
    let count = length-map c.args.staged.now (λ slot. slot_entry slot.value) in
    let len = over_len staged base c.requires.rising in
    let bytes = over_bytes staged base c.requires.rising c.requires.limits in
    let few = c.if-has_room.ensures.entries refl in
    let small = c.if-has_room.ensures.bytes refl in
    let entries = c.requires.before.entries in
    let size = c.requires.before.bytes in
    (λ t. record { entries = omega (arith, count, len, few, entries); bytes = omega (arith, count, bytes, small, size) }, λ w. refl)
