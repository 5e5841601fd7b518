use Rattle.std.proofs.Common.{◌+◌, ◌*◌, ◌≤◌, ◌^◌, drop, length}
use Rattle.memtable.specs.Slots.{slot_entries, over}
use Rattle.memtable.specs.Sizes.{IsSizeOf}
use Rattle.memtable.specs.Blocks.{block_entries}
use Rattle.memtable.proofs.staging.size_with.Given as goal

-- the size of the table with the entries from the index on put over it
abbrev pub invariant-loop-at : goal.invariant-loop-at
invariant-loop-at l =
    record {
      within : l.at ≤ length l.staged;
      size : IsSizeOf l.size (over (drop l.at (slot_entries l.staged)) (block_entries l.table));
      few : l.size.entries + l.at ≤ 2 ^ 65;
      small : l.size.bytes + 2 ^ 18 * l.at ≤ 2 ^ 83;
    }

abbrev pub decreases-loop-at : goal.decreases-loop-at
decreases-loop-at l = l.at
