use Rattle.std.proofs.Common.{◌≤◌, ◌-◌, length}
use Rattle.memtable.specs.Slots.{AreBelow}
use Rattle.memtable.proofs.entries.steps_after.Given as goal

-- all before the index are below
abbrev pub invariant-steps : goal.invariant-steps
invariant-steps g l = record {
  within : l.from ≤ length l.slots;
  below : AreBelow (g.S.Sought.name l.sought) l.slots l.from;
}

abbrev pub decreases-steps : goal.decreases-steps
decreases-steps g l = length l.slots - l.from
