use Rattle.std.proofs.Common.{List, subst, sym, arith}
use Rattle.std.specs.List.{AllByRecursion}
use Rattle.cell_key.specs.Entries.{Entry}
use Rattle.memtable.specs.Blocks.{block_entries}
use Rattle.memtable.specs.Slots.{over, slot_entries}
use Rattle.memtable.specs.StampRanges.{IsEntryWithin}
use Rattle.memtable.proofs.Sizes.{kept, locks_within}
use Rattle.memtable.proofs.prepared.Prepared.put.Goals as goal

pub overflow_cast-result-3 : goal.overflow_cast-result-3
overflow_cast-result-3 c =
    let all = over (slot_entries c.self.inside.staged.items) (block_entries c.self.inside.blocks.filled.items) in
    let size = c.put_all-size.ensures.size in
    let locks = locks_within c.put_all-size.result all size in
    let count = size.entries in
    let most = c.self.invariant.within.entries in
    omega (arith, locks, count, most)

pub invariant_of-result : goal.invariant_of-result
invariant_of-result c =
    let base = block_entries c.self.inside.blocks.filled.items in
    let staged = slot_entries c.self.inside.staged.items in
    let made = c.put_all-size.ensures.entries in
    let stamps = subst (λ (es : List Entry). AllByRecursion (IsEntryWithin c.self.inside.widened) es) (sym made) c.self.invariant.stamps in
    kept c.put_all-size.new.blocks staged base c.put_all-size.result made c.self.invariant.kept.list c.self.invariant.limits c.put_all-size.ensures.size c.self.invariant.within c.put_all-size.ensures.blocks c.self.inside.widened stamps
