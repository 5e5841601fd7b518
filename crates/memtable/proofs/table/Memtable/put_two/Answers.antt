use Rattle.std.proofs.Common.{◌≡◌, [], ◌∷◌, List, length, rules, sym, ap, subst, ◌∙◌, arith}
use Rattle.std.specs.FinMap.Entries.{put}
use Rattle.cell_key.specs.Keys.{byte_cmp}
use Rattle.cell_key.specs.Entries.{Entry, IsRising}
use Rattle.std.specs.List.{All, AllByRecursion}
use Rattle.cell_key.specs.declared.edits.Edit.{Edit}
use Rattle.memtable.specs.StampRanges.{IsEditWithin}
use Rattle.memtable.proofs.StampRanges.{stamps_after}
use Rattle.memtable.specs.Slots.{slot_entry, over}
use Rattle.memtable.specs.Sizes.{IsSizeOf}
use Rattle.memtable.specs.Blocks.{block_entries}
use Rattle.memtable.specs.Edits.{bytes_of, with_edits, HasStoredKey, IsWithinLimits}
use Rattle.memtable.proofs.EntryLists.{over_rising}
use Rattle.memtable.proofs.Sizes.{kept, kept_list, locks_within, over_bytes, over_len, two_within}
use Rattle.memtable.proofs.table.Memtable.put_two.Goals as goal

pub put_counted-size-requires-clause-rising : goal.put_counted-size-requires-clause-rising
put_counted-size-requires-clause-rising c =
    let base = block_entries c.self.inside.blocks.filled.items in
    let first = slot_entry c.in_ok-first.first.value in
    let last = slot_entry c.in_ok-last.last.value in
    let half : block_entries c.put_counted-half.new.blocks.filled.items ≡ over (first ∷ []) base = c.put_counted-half.ensures.entries ∙ ap (λ (xs : _). put byte_cmp first.0 first.1 (block_entries xs)) c.in_ok-make_room.ensures.same in
    subst (λ (es : List Entry). IsRising es) (sym half) (over_rising (first ∷ []) base c.self.invariant.list.rising)

pub put_counted-size-requires-clause-room : goal.put_counted-size-requires-clause-room
put_counted-size-requires-clause-room c =
    c.put_counted-half.ensures.room 1 c.in_ok-make_room.ensures.room

pub put_counted-size-requires-clause-few : goal.put_counted-size-requires-clause-few
put_counted-size-requires-clause-few c =
    let base = block_entries c.self.inside.blocks.filled.items in
    let first = slot_entry c.in_ok-first.first.value in
    let last = slot_entry c.in_ok-last.last.value in
    let half : block_entries c.put_counted-half.new.blocks.filled.items ≡ over (first ∷ []) base = c.put_counted-half.ensures.entries ∙ ap (λ (xs : _). put byte_cmp first.0 first.1 (block_entries xs)) c.in_ok-make_room.ensures.same in
    let same = ap length c.self.view_is in
    let bytes = ap bytes_of c.self.view_is in
    let few = c.requires.entries in
    let small = c.requires.bytes in
    let size = subst (λ (xs : _). IsSizeOf c.put_counted-half.result (put byte_cmp first.0 first.1 (block_entries xs))) c.in_ok-make_room.ensures.same c.put_counted-half.ensures.size in
    let count = size.entries in
    let total = size.bytes in
    let len = over_len (first ∷ []) base c.self.invariant.list.rising in
    let most = over_bytes (first ∷ []) base c.self.invariant.list.rising (c.in_ok-first.ensures.limits, tt) in
    omega (arith, same, few, count, len)

pub put_counted-size-requires-clause-small : goal.put_counted-size-requires-clause-small
put_counted-size-requires-clause-small c =
    let base = block_entries c.self.inside.blocks.filled.items in
    let first = slot_entry c.in_ok-first.first.value in
    let last = slot_entry c.in_ok-last.last.value in
    let half : block_entries c.put_counted-half.new.blocks.filled.items ≡ over (first ∷ []) base = c.put_counted-half.ensures.entries ∙ ap (λ (xs : _). put byte_cmp first.0 first.1 (block_entries xs)) c.in_ok-make_room.ensures.same in
    let same = ap length c.self.view_is in
    let bytes = ap bytes_of c.self.view_is in
    let few = c.requires.entries in
    let small = c.requires.bytes in
    let size = subst (λ (xs : _). IsSizeOf c.put_counted-half.result (put byte_cmp first.0 first.1 (block_entries xs))) c.in_ok-make_room.ensures.same c.put_counted-half.ensures.size in
    let count = size.entries in
    let total = size.bytes in
    let len = over_len (first ∷ []) base c.self.invariant.list.rising in
    let most = over_bytes (first ∷ []) base c.self.invariant.list.rising (c.in_ok-first.ensures.limits, tt) in
    omega (arith, bytes, small, total, most)

pub overflow_cast-self : goal.overflow_cast-self
overflow_cast-self c =
    let base = block_entries c.self.inside.blocks.filled.items in
    let first = slot_entry c.in_ok-first.first.value in
    let last = slot_entry c.in_ok-last.last.value in
    let half : block_entries c.put_counted-half.new.blocks.filled.items ≡ over (first ∷ []) base = c.put_counted-half.ensures.entries ∙ ap (λ (xs : _). put byte_cmp first.0 first.1 (block_entries xs)) c.in_ok-make_room.ensures.same in
    let same = ap length c.self.view_is in
    let bytes = ap bytes_of c.self.view_is in
    let few = c.requires.entries in
    let small = c.requires.bytes in
    let size = subst (λ (es : List Entry). IsSizeOf c.put_counted-size.result (put byte_cmp last.0 last.1 es)) half c.put_counted-size.ensures.size in
    let within = two_within first last base c.self.invariant.list.rising c.in_ok-first.ensures.limits c.in_ok-last.ensures.limits (omega (arith, same, few)) (omega (arith, bytes, small)) in
    let count = size.entries in
    let most = within.entries in
    omega (arith, count, most)

pub overflow_cast-self-2 : goal.overflow_cast-self-2
overflow_cast-self-2 c =
    let base = block_entries c.self.inside.blocks.filled.items in
    let first = slot_entry c.in_ok-first.first.value in
    let last = slot_entry c.in_ok-last.last.value in
    let half : block_entries c.put_counted-half.new.blocks.filled.items ≡ over (first ∷ []) base = c.put_counted-half.ensures.entries ∙ ap (λ (xs : _). put byte_cmp first.0 first.1 (block_entries xs)) c.in_ok-make_room.ensures.same in
    let same = ap length c.self.view_is in
    let bytes = ap bytes_of c.self.view_is in
    let few = c.requires.entries in
    let small = c.requires.bytes in
    let size = subst (λ (es : List Entry). IsSizeOf c.put_counted-size.result (put byte_cmp last.0 last.1 es)) half c.put_counted-size.ensures.size in
    let within = two_within first last base c.self.invariant.list.rising c.in_ok-first.ensures.limits c.in_ok-last.ensures.limits (omega (arith, same, few)) (omega (arith, bytes, small)) in
    let total = size.bytes in
    let most = within.bytes in
    omega (arith, total, most)

pub overflow_cast-self-3 : goal.overflow_cast-self-3
overflow_cast-self-3 c =
    let base = block_entries c.self.inside.blocks.filled.items in
    let first = slot_entry c.in_ok-first.first.value in
    let last = slot_entry c.in_ok-last.last.value in
    let half : block_entries c.put_counted-half.new.blocks.filled.items ≡ over (first ∷ []) base = c.put_counted-half.ensures.entries ∙ ap (λ (xs : _). put byte_cmp first.0 first.1 (block_entries xs)) c.in_ok-make_room.ensures.same in
    let same = ap length c.self.view_is in
    let bytes = ap bytes_of c.self.view_is in
    let few = c.requires.entries in
    let small = c.requires.bytes in
    let size = subst (λ (es : List Entry). IsSizeOf c.put_counted-size.result (put byte_cmp last.0 last.1 es)) half c.put_counted-size.ensures.size in
    let within = two_within first last base c.self.invariant.list.rising c.in_ok-first.ensures.limits c.in_ok-last.ensures.limits (omega (arith, same, few)) (omega (arith, bytes, small)) in
    let count = size.entries in
    let most = within.entries in
    let locks = locks_within c.put_counted-size.result (over (last ∷ first ∷ []) base) size in
    omega (arith, locks, count, most)

pub invariant_of-self-2 : goal.invariant_of-self-2
invariant_of-self-2 c =
    let base = block_entries c.self.inside.blocks.filled.items in
    let first = slot_entry c.in_ok-first.first.value in
    let last = slot_entry c.in_ok-last.last.value in
    let half : block_entries c.put_counted-half.new.blocks.filled.items ≡ over (first ∷ []) base = c.put_counted-half.ensures.entries ∙ ap (λ (xs : _). put byte_cmp first.0 first.1 (block_entries xs)) c.in_ok-make_room.ensures.same in
    let same = ap length c.self.view_is in
    let bytes = ap bytes_of c.self.view_is in
    let few = c.requires.entries in
    let small = c.requires.bytes in
    let size = subst (λ (es : List Entry). IsSizeOf c.put_counted-size.result (put byte_cmp last.0 last.1 es)) half c.put_counted-size.ensures.size in
    let within = two_within first last base c.self.invariant.list.rising c.in_ok-first.ensures.limits c.in_ok-last.ensures.limits (omega (arith, same, few)) (omega (arith, bytes, small)) in
    let made = c.put_counted-size.ensures.entries ∙ ap (put byte_cmp last.0 last.1) half in
    let all : block_entries c.put_counted-size.new.blocks.filled.items ≡ with_edits c.args.self.now c.args.edits.items = search rules in
    let keys : AllByRecursion HasStoredKey c.args.edits.items = search rules in
    let edits = subst (λ (xs : List Edit). All (IsEditWithin c.with_edits-stamps.result) xs) c.deref.ensures.value c.with_edits-stamps.ensures.edits in
    let stamps = stamps_after c.self.inside.stamps c.with_edits-stamps.result c.args.edits.items base (block_entries c.put_counted-size.new.blocks.filled.items) (all ∙ ap (λ (es : List Entry). with_edits es c.args.edits.items) (sym c.self.view_is)) keys c.with_edits-stamps.ensures.least c.with_edits-stamps.ensures.greatest edits c.self.invariant.stamps in
    kept c.put_counted-size.new.blocks (last ∷ first ∷ []) base c.put_counted-size.result made c.self.invariant.list (c.in_ok-last.ensures.limits, (c.in_ok-first.ensures.limits, tt)) size within c.put_counted-size.ensures.blocks c.with_edits-stamps.result stamps

pub returns-clause-list : goal.returns-clause-list
returns-clause-list c =
    let base = block_entries c.self.inside.blocks.filled.items in
    let first = slot_entry c.in_ok-first.first.value in
    let last = slot_entry c.in_ok-last.last.value in
    let half : block_entries c.put_counted-half.new.blocks.filled.items ≡ over (first ∷ []) base = c.put_counted-half.ensures.entries ∙ ap (λ (xs : _). put byte_cmp first.0 first.1 (block_entries xs)) c.in_ok-make_room.ensures.same in
    let made = c.put_counted-size.ensures.entries ∙ ap (put byte_cmp last.0 last.1) half in
    kept_list (block_entries c.put_counted-size.new.blocks.filled.items) (last ∷ first ∷ []) base made c.self.invariant.list (c.in_ok-last.ensures.limits, (c.in_ok-first.ensures.limits, tt))

pub returns-clause-within : goal.returns-clause-within
returns-clause-within c =
    let base = block_entries c.self.inside.blocks.filled.items in
    let first = slot_entry c.in_ok-first.first.value in
    let last = slot_entry c.in_ok-last.last.value in
    let half : block_entries c.put_counted-half.new.blocks.filled.items ≡ over (first ∷ []) base = c.put_counted-half.ensures.entries ∙ ap (λ (xs : _). put byte_cmp first.0 first.1 (block_entries xs)) c.in_ok-make_room.ensures.same in
    let same = ap length c.self.view_is in
    let bytes = ap bytes_of c.self.view_is in
    let few = c.requires.entries in
    let small = c.requires.bytes in
    let size = subst (λ (es : List Entry). IsSizeOf c.put_counted-size.result (put byte_cmp last.0 last.1 es)) half c.put_counted-size.ensures.size in
    let within = two_within first last base c.self.invariant.list.rising c.in_ok-first.ensures.limits c.in_ok-last.ensures.limits (omega (arith, same, few)) (omega (arith, bytes, small)) in
    let made = c.put_counted-size.ensures.entries ∙ ap (put byte_cmp last.0 last.1) half in
    let all : block_entries c.put_counted-size.new.blocks.filled.items ≡ with_edits c.args.self.now c.args.edits.items = search rules in
    subst (λ (es : List Entry). IsWithinLimits es) (sym made ∙ all) within
