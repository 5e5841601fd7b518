use Rattle.std.proofs.Common.{◌+◌, ap, ◌∙◌, arith}
use Rattle.memtable.specs.Slots.{slot_entry}
use Rattle.memtable.specs.Sizes.{entry_size}
use Rattle.memtable.specs.Blocks.{block_entries}
use Rattle.memtable.specs.declared.entries.Slot.{Slot}
use Rattle.memtable.specs.declared.size.EntrySize.{EntrySize}
use Rattle.memtable.proofs.Sizes.{entry_small, locks_fit, replaced_locks, replaced_within, size_step}
use Rattle.memtable.proofs.blocks.put_counted.Goals as goal

pub with-requires-clause-replaced_bytes : goal.with-requires-clause-replaced_bytes
with-requires-clause-replaced_bytes c =
    replaced_within (block_entries c.args.blocks.now.filled.items) (slot_entry c.args.slot.value).0 c.put.result c.put.ensures.replaced c.args.before c.requires.before

pub with-requires-clause-replaced_locks : goal.with-requires-clause-replaced_locks
with-requires-clause-replaced_locks c =
    replaced_locks (block_entries c.args.blocks.now.filled.items) (slot_entry c.args.slot.value).0 c.put.result c.put.ensures.replaced c.args.before c.requires.before

pub with-requires-clause-small : goal.with-requires-clause-small
with-requires-clause-small c =
    let small = entry_small (slot_entry c.args.slot.value) c.requires.limits in
    let added = c.size-added.ensures ∙ ap (λ (s : Slot). entry_size (slot_entry s)) c.deref.ensures in
    let len = ap (λ (size : EntrySize). size.bytes) added in
    let bytes = c.requires.small in
    omega (arith, small, len, bytes)

pub with-requires-clause-few_locks : goal.with-requires-clause-few_locks
with-requires-clause-few_locks c =
    let entry = slot_entry c.args.slot.value in
    let added = c.size-added.ensures ∙ ap (λ (s : Slot). entry_size (slot_entry s)) c.deref.ensures in
    let one = ap (λ (size : EntrySize). size.locks) added in
    let fit = locks_fit entry c.args.before (block_entries c.args.blocks.now.filled.items) c.requires.before c.requires.few in
    omega (arith, one, fit)

pub returns-clause-size : goal.returns-clause-size
returns-clause-size c =
    let entry = slot_entry c.args.slot.value in
    let added = c.size-added.ensures ∙ ap (λ (s : Slot). entry_size (slot_entry s)) c.deref.ensures in
    let bytes = c.with.ensures.bytes ∙ ap (λ (size : EntrySize). c.args.before.bytes + size.bytes) added in
    let locks = c.with.ensures.locks ∙ ap (λ (size : EntrySize). c.args.before.locks + size.locks) added in
    size_step (block_entries c.args.blocks.now.filled.items) entry.0 c.put.result c.put.ensures.replaced entry.1 c.args.before c.with.result c.requires.rising c.requires.before c.with.ensures.entries bytes locks
