use Rattle.std.proofs.Common.{◌∷◌, [], ◌+◌, sym, ap, subst, ◌∙◌, arith, List}
use Rattle.std.specs.Cmp.Lexicographic.{nat_list_cmp_total}
use Rattle.std.specs.FinMap.Entries.{is_sorted-put}
use Rattle.std.proofs.lemmas.List.{map-append}
use Rattle.cell_key.specs.Keys.{byte_cmp}
use Rattle.cell_key.specs.Entries.{Entry, IsEntry, IsRising, entry_len}
use Rattle.memtable.specs.Slots.{slot_entry, slot_entries, over}
use Rattle.memtable.specs.Blocks.{block_entries, HasRoom}
use Rattle.memtable.specs.Sizes.{IsSizeOf, entry_size}
use Rattle.memtable.specs.declared.entries.Slot.{Slot}
use Rattle.memtable.specs.declared.size.EntrySize.{EntrySize}
use Rattle.memtable.proofs.EntryLists.{all_pushed, over-push}
use Rattle.memtable.proofs.Sizes.{entry_small, few_more, locks_fit, replaced_locks, replaced_within, size_step, small_more}
use Rattle.std.specs.List.{AllByRecursion}
use Rattle.memtable.proofs.blocks.put_all.Goals as goal

pub with-size-requires-clause-replaced_bytes : goal.with-size-requires-clause-replaced_bytes
with-size-requires-clause-replaced_bytes c =
    let old = block_entries c.loop-slot.blocks.filled.items in
    replaced_within old (slot_entry c.in-Some.slot.value).0 c.put.result c.put.ensures.replaced c.loop-slot.size c.loop-slot.invariant.size

pub with-size-requires-clause-replaced_locks : goal.with-size-requires-clause-replaced_locks
with-size-requires-clause-replaced_locks c =
    let old = block_entries c.loop-slot.blocks.filled.items in
    replaced_locks old (slot_entry c.in-Some.slot.value).0 c.put.result c.put.ensures.replaced c.loop-slot.size c.loop-slot.invariant.size

pub with-size-requires-clause-small : goal.with-size-requires-clause-small
with-size-requires-clause-small c =
    let entry = slot_entry c.in-Some.slot.value in
    let rest = slot_entries c.pop.new.self.items in
    let whole = ap slot_entries c.in-Some.ensures.items ∙ map-append (λ (s : _). slot_entry s.value) c.pop.new.self.items (c.in-Some.slot ∷ []) in
    let all = all_pushed IsEntry rest entry (subst (λ (es : List Entry). AllByRecursion IsEntry es) whole c.loop-slot.invariant.limits) in
    let small = entry_small entry all.1 in
    let added = c.size-added.ensures ∙ ap (λ (s : Slot). entry_size (slot_entry s)) c.deref.ensures in
    let len = ap (λ (size : EntrySize). size.bytes) added in
    let bytes = c.loop-slot.invariant.small in
    omega (arith, small, len, bytes)

pub with-size-requires-clause-few_locks : goal.with-size-requires-clause-few_locks
with-size-requires-clause-few_locks c =
    let entry = slot_entry c.in-Some.slot.value in
    let added = c.size-added.ensures ∙ ap (λ (s : Slot). entry_size (slot_entry s)) c.deref.ensures in
    let one = ap (λ (size : EntrySize). size.locks) added in
    let few = c.loop-slot.invariant.few in
    let fit = locks_fit entry c.loop-slot.size (block_entries c.loop-slot.blocks.filled.items) c.loop-slot.invariant.size (omega (arith, few)) in
    omega (arith, one, fit)

pub loop-slot-preserved : goal.loop-slot-preserved
loop-slot-preserved c =
    let entry = slot_entry c.in-Some.slot.value in
    let old = block_entries c.loop-slot.blocks.filled.items in
    let rest = slot_entries c.pop.new.self.items in
    let whole = ap slot_entries c.in-Some.ensures.items ∙ map-append (λ (s : _). slot_entry s.value) c.pop.new.self.items (c.in-Some.slot ∷ []) in
    let all = all_pushed IsEntry rest entry (subst (λ (es : List Entry). AllByRecursion IsEntry es) whole c.loop-slot.invariant.limits) in
    let added = c.size-added.ensures ∙ ap (λ (s : Slot). entry_size (slot_entry s)) c.deref.ensures in
    let bytes = c.with-size.ensures.bytes ∙ ap (λ (size : EntrySize). c.loop-slot.size.bytes + size.bytes) added in
    let locks = c.with-size.ensures.locks ∙ ap (λ (size : EntrySize). c.loop-slot.size.locks + size.locks) added in
    let len = c.in-Some.ensures.len in
    let size = size_step old entry.0 c.put.result c.put.ensures.replaced entry.1 c.loop-slot.size c.with-size.result c.loop-slot.invariant.rising c.loop-slot.invariant.size c.with-size.ensures.entries bytes locks in
    record {
      rising = subst (λ (es : List Entry). IsRising es) (sym c.put.ensures.entries) (is_sorted-put byte_cmp nat_list_cmp_total entry.0 entry.1 old c.loop-slot.invariant.rising);
      entries =
          ap (over rest) c.put.ensures.entries ∙ sym (over-push rest entry old)
          ∙ ap (λ (es : List Entry). over es old) (sym whole) ∙ c.loop-slot.invariant.entries;
      blocks = c.put.ensures.blocks;
      room = c.put.ensures.room _ (subst (λ n. HasRoom n c.loop-slot.blocks) (let e = len in omega arith) c.loop-slot.invariant.room);
      limits = all.0;
      size = subst (λ (es : List Entry). IsSizeOf c.with-size.result es) (sym c.put.ensures.entries) size;
      few = few_more c.put.result c.loop-slot.size c.with-size.result _ _ c.with-size.ensures.entries (let e = len in omega arith) c.loop-slot.invariant.few;
      small = small_more c.loop-slot.size.bytes c.with-size.result.bytes _ (entry_len entry) _ _ bytes (entry_small entry all.1) (let e = len in omega arith) c.loop-slot.invariant.small;
    }
