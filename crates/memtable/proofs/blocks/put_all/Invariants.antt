use Rattle.std.proofs.Common.{◌≡◌, ◌+◌, ◌*◌, ◌≤◌, ◌^◌, vec_len}
use Rattle.std.specs.List.{AllByRecursion}
use Rattle.cell_key.specs.Entries.{IsEntry, IsRising}
use Rattle.memtable.specs.Slots.{slot_entries, over}
use Rattle.memtable.specs.Sizes.{IsSizeOf}
use Rattle.memtable.specs.Blocks.{block_entries, AreEntryBlocks, HasRoom}
use Rattle.memtable.proofs.blocks.put_all.Given as goal

-- putting the remaining staged entries gives the same entries as putting all, and there is room for them
abbrev pub invariant-loop-slot : goal.invariant-loop-slot
invariant-loop-slot l =
    record {
      rising : IsRising (block_entries l.blocks.filled.items);
      entries : over (slot_entries l.staged.items) (block_entries l.blocks.filled.items) ≡ over (slot_entries l.fn.staged.items) (block_entries l.fn.blocks.filled.items);
      blocks : AreEntryBlocks l.blocks;
      room : HasRoom (vec_len l.staged) l.blocks;
      limits : AllByRecursion IsEntry (slot_entries l.staged.items);
      size : IsSizeOf l.size (block_entries l.blocks.filled.items);
      few : l.size.entries + vec_len l.staged ≤ 2 ^ 65;
      small : l.size.bytes + 2 ^ 18 * vec_len l.staged ≤ 2 ^ 83;
    }

abbrev pub decreases-loop-slot : goal.decreases-loop-slot
decreases-loop-slot l = vec_len l.staged
