use Rattle.std.proofs.Common.{◌≤◌, ap, subst, sym, ◌∙◌, arith, length, vec_len}
use Rattle.std.proofs.lemmas.List.{length-map}
use Rattle.cell_key.specs.Entries.{IsPlace}
use Rattle.memtable.specs.declared.blocks.Block.{Block}
use Rattle.memtable.specs.declared.entries.Slot.{Slot}
use Rattle.memtable.specs.Slots.{slot_entry}
use Rattle.memtable.specs.Blocks.{list_of}
use Rattle.memtable.specs.Sizes.{stood_size}
use Rattle.memtable.proofs.BlockLists.{rising_at}
use Rattle.memtable.proofs.BlockFacts.{at_other, at_place, at_set, at_within, found_chosen, full_at, put_chosen}
use Rattle.memtable.proofs.Places.{place_bound}
use Rattle.memtable.proofs.blocks.put.Goals as goal

pub put_in-replaced-requires-clause-rising : goal.put_in-replaced-requires-clause-rising
put_in-replaced-requires-clause-rising c =
    let xs = c.args.blocks.now.filled.items in
    let room = rw c.deref-3.ensures.value at c.room_at-at.ensures in
    let within = at_within xs c.place_near-place.result c.room_at-at.result (omega (arith, c.if-count-eq0.false)) room.inside room.end in
    rising_at list_of xs c.room_at-at.result.block c.index_mut.result.now c.requires.rising within c.index_mut.ensures.value

pub put_in-replaced-requires-clause-place : goal.put_in-replaced-requires-clause-place
put_in-replaced-requires-clause-place c =
    let xs = c.args.blocks.now.filled.items in
    let room = rw c.deref-3.ensures.value at c.room_at-at.ensures in
    let text = ap (λ (s : Slot). s.text) c.deref-2.ensures in
    let place = rw (text, c.deref.ensures.value) at c.place_near-place.ensures in
    let at = c.room_at-at.result in
    subst (λ (b : Block). IsPlace c.args.slot.value.text (list_of b) at.slot) (sym c.index_mut.ensures.value)
    (at_place xs c.place_near-place.result at (omega (arith, c.if-count-eq0.false)) room.inside room.end c.args.slot.value.text c.requires.rising place c.index_mut.result.now)

pub put_in-replaced-requires-clause-bound : goal.put_in-replaced-requires-clause-bound
put_in-replaced-requires-clause-bound c =
    let xs = c.args.blocks.now.filled.items in
    let room = rw c.deref-3.ensures.value at c.room_at-at.ensures in
    let text = ap (λ (s : Slot). s.text) c.deref-2.ensures in
    let place = rw (text, c.deref.ensures.value) at c.place_near-place.ensures in
    let at = c.room_at-at.result in
    let block = c.index_mut.result.now in
    let there = subst (λ (b : Block). IsPlace c.args.slot.value.text (list_of b) at.slot) (sym c.index_mut.ensures.value)
    (at_place xs c.place_near-place.result at (omega (arith, c.if-count-eq0.false)) room.inside room.end c.args.slot.value.text c.requires.rising place block) in
    let bound = place_bound c.args.slot.value.text (list_of block) at.slot there in
    let len = length-map block.slots.items (λ s. slot_entry s.value) in
    let items = block.slots.ok.0 in
    omega (arith, bound, len, items)

pub split-requires-clause-full : goal.split-requires-clause-full
split-requires-clause-full c =
    let xs = c.args.blocks.now.filled.items in
    let room = rw c.deref-3.ensures.value at c.room_at-at.ensures in
    let at = c.room_at-at.result.block in
    let within = at_within xs c.place_near-place.result c.room_at-at.result (omega (arith, c.if-count-eq0.false)) room.inside room.end in
    let len = c.len.ensures ∙ ap (λ (b : Block). vec_len b.slots) (c.index.ensures ∙ at_set xs at c.put_in-replaced.new.block c.index.result.now within) in
    full_at xs at c.put_in-replaced.new.block within (omega (arith, len, c.if-len-eq-BLOCK_ROOM.true)) c.put_in-replaced.ensures.counted c.requires.blocks.filled

pub returns-else-len-eq-BLOCK_ROOM-clause-entries : goal.returns-else-len-eq-BLOCK_ROOM-clause-entries
returns-else-len-eq-BLOCK_ROOM-clause-entries c =
    let xs = c.args.blocks.now.filled.items in
    let room = rw c.deref-3.ensures.value at c.room_at-at.ensures in
    let at = c.room_at-at.result in
    let some : 1 ≤ length xs = omega (arith, c.if-count-eq0.false) in
    let within = at_within xs c.place_near-place.result at some room.inside room.end in
    let name = ap (λ (s : Slot). s.text) c.deref-2.ensures in
    let place = rw (name, c.deref.ensures.value) at c.place_near-place.ensures.block in
    put_chosen c.args.slot.value.text (slot_entry c.args.slot.value).1 c.index_mut.result.now c.put_in-replaced.new.block c.put_in-replaced.ensures.entries xs c.place_near-place.result.block at.block c.requires.rising c.requires.blocks.filled place within (at_other xs c.place_near-place.result at some room.inside room.end) c.index_mut.ensures.value

pub returns-then-len-eq-BLOCK_ROOM-clause-entries : goal.returns-then-len-eq-BLOCK_ROOM-clause-entries
returns-then-len-eq-BLOCK_ROOM-clause-entries c =
    let xs = c.args.blocks.now.filled.items in
    let room = rw c.deref-3.ensures.value at c.room_at-at.ensures in
    let at = c.room_at-at.result in
    let some : 1 ≤ length xs = omega (arith, c.if-count-eq0.false) in
    let within = at_within xs c.place_near-place.result at some room.inside room.end in
    let name = ap (λ (s : Slot). s.text) c.deref-2.ensures in
    let place = rw (name, c.deref.ensures.value) at c.place_near-place.ensures.block in
    c.split.ensures.same
    ∙ put_chosen c.args.slot.value.text (slot_entry c.args.slot.value).1 c.index_mut.result.now c.put_in-replaced.new.block c.put_in-replaced.ensures.entries xs c.place_near-place.result.block at.block c.requires.rising c.requires.blocks.filled place within (at_other xs c.place_near-place.result at some room.inside room.end) c.index_mut.ensures.value

pub returns-then-len-eq-BLOCK_ROOM-clause-room : goal.returns-then-len-eq-BLOCK_ROOM-clause-room
returns-then-len-eq-BLOCK_ROOM-clause-room c n room = c.split.ensures.room n (record { filled = room.filled; spare = room.spare })

pub returns-then-len-eq-BLOCK_ROOM-clause-replaced : goal.returns-then-len-eq-BLOCK_ROOM-clause-replaced
returns-then-len-eq-BLOCK_ROOM-clause-replaced c =
    let xs = c.args.blocks.now.filled.items in
    let room = rw c.deref-3.ensures.value at c.room_at-at.ensures in
    let at = c.room_at-at.result in
    let some : 1 ≤ length xs = omega (arith, c.if-count-eq0.false) in
    let within = at_within xs c.place_near-place.result at some room.inside room.end in
    let name = ap (λ (s : Slot). s.text) c.deref-2.ensures in
    let place = rw (name, c.deref.ensures.value) at c.place_near-place.ensures.block in
    let text = c.args.slot.value.text in
    c.put_in-replaced.ensures.replaced
    ∙ ap (stood_size text) (sym (found_chosen text c.index_mut.result.now xs c.place_near-place.result.block at.block c.requires.rising c.requires.blocks.filled place within (at_other xs c.place_near-place.result at some room.inside room.end) c.index_mut.ensures.value))

pub returns-else-len-eq-BLOCK_ROOM-clause-replaced : goal.returns-else-len-eq-BLOCK_ROOM-clause-replaced
returns-else-len-eq-BLOCK_ROOM-clause-replaced c =
    let xs = c.args.blocks.now.filled.items in
    let room = rw c.deref-3.ensures.value at c.room_at-at.ensures in
    let at = c.room_at-at.result in
    let some : 1 ≤ length xs = omega (arith, c.if-count-eq0.false) in
    let within = at_within xs c.place_near-place.result at some room.inside room.end in
    let name = ap (λ (s : Slot). s.text) c.deref-2.ensures in
    let place = rw (name, c.deref.ensures.value) at c.place_near-place.ensures.block in
    let text = c.args.slot.value.text in
    c.put_in-replaced.ensures.replaced
    ∙ ap (stood_size text) (sym (found_chosen text c.index_mut.result.now xs c.place_near-place.result.block at.block c.requires.rising c.requires.blocks.filled place within (at_other xs c.place_near-place.result at some room.inside room.end) c.index_mut.ensures.value))
