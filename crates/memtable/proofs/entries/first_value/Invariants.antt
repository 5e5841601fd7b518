use Rattle.std.proofs.Common.{◌≡◌, length}
use Rattle.memtable.specs.Slots.{slot_entries, first_value}
use Rattle.memtable.proofs.entries.first_value.Given as goal

-- the entries passed have no value
abbrev pub invariant-slots : goal.invariant-slots
invariant-slots l = first_value (slot_entries l.rest) ≡ first_value (slot_entries l.fn.slots)

abbrev pub decreases-slots : goal.decreases-slots
decreases-slots l = length l.rest
