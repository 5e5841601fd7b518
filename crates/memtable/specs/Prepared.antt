-- Tables with edits that are ready to be put.
use Rattle.std.specs.Prelude.{ℕ, vec_len}
use Rattle.std.specs.declared.boxed.Box.{Box}
use Rattle.std.specs.declared.vec.Vec.{Vec}
use Rattle.std.specs.List.{AllByRecursion}
use Rattle.cell_key.specs.Entries.{IsEntry}
use Rattle.memtable.specs.Blocks.{HasRoom, IsKept, block_entries}
use Rattle.memtable.specs.Edits.{IsWithinLimits}
use Rattle.memtable.specs.Slots.{over, slot_entries}
use Rattle.memtable.specs.StampRanges.{IsEntryWithin}
use Rattle.memtable.specs.declared.blocks.Blocks.{Blocks}
use Rattle.memtable.specs.declared.entries.Slot.{Slot}
use Rattle.memtable.specs.declared.stamp_range.StampRange.{StampRange}

-- The state of a memtable is right for its entries. There is room for the staged entries, and with them the memtable is
-- within its limits, and all its stamps in the widened range.
pub record IsPrepared {A Z : Type 0} (table : Blocks) (len total locked : ℕ) (range : StampRange)
    (staged : Vec (Box Slot A) Z) (widened : StampRange) : Type 0 where
  pub kept : IsKept table len total locked range
  pub limits : AllByRecursion IsEntry (slot_entries staged.items)
  pub room : HasRoom (vec_len staged) table
  pub within : IsWithinLimits (over (slot_entries staged.items) (block_entries table.filled.items))
  pub stamps : AllByRecursion (IsEntryWithin widened)
      (over (slot_entries staged.items) (block_entries table.filled.items))
