use Rattle.std.proofs.Common.{◌≡◌, ◌+◌, ◌-◌, ◌≤◌, vec_len, vec_capacity}
use Rattle.std.specs.List.{AllByRecursion}
use Rattle.memtable.specs.Blocks.{IsSpare}
use Rattle.memtable.proofs.blocks.make_room.Given as goal

-- the filled blocks are unchanged and have room, and the spare ones are empty
abbrev pub invariant-loop-alloc : goal.invariant-loop-alloc
invariant-loop-alloc l =
    record {
      same : l.blocks.filled.items ≡ l.fn.blocks.filled.items;
      filled : vec_len l.blocks.filled + l.count ≤ vec_capacity l.blocks.filled;
      spare : AllByRecursion IsSpare l.blocks.spare.items;
    }

abbrev pub decreases-loop-alloc : goal.decreases-loop-alloc
decreases-loop-alloc l = l.count - vec_len l.blocks.spare
