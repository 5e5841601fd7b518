use Rattle.std.proofs.Common.{◌≡◌, ◌+◌, ◌≤◌, ◌++◌, vec_len, vec_capacity, reverse}
use Rattle.memtable.proofs.blocks.halve.Given as goal

-- the entries taken are in reverse order
abbrev pub invariant-loop-slots : goal.invariant-loop-slots
invariant-loop-slots l =
    record {
      items : l.fn.slots.items ≡ l.slots.items ++ reverse l.upper.items;
      lens : vec_len l.slots + vec_len l.upper ≡ 128;
      lower : 64 ≤ vec_len l.slots;
      capacity : vec_capacity l.slots ≡ vec_capacity l.fn.slots;
      room : 128 ≤ vec_capacity l.upper;
    }

abbrev pub decreases-loop-slots : goal.decreases-loop-slots
decreases-loop-slots l = vec_len l.slots
