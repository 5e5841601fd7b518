use Rattle.std.proofs.Common.{◌≡◌, ◌+◌, length}
use Rattle.memtable.specs.Slots.{slot_entries, value_count}
use Rattle.memtable.proofs.entries.value_count.Given as goal

-- the count and the values in the rest are all values
abbrev pub invariant-slots : goal.invariant-slots
invariant-slots l = l.count + value_count (slot_entries l.rest) ≡ value_count (slot_entries l.fn.slots)

abbrev pub decreases-slots : goal.decreases-slots
decreases-slots l = length l.rest
