use Rattle.std.proofs.Common.{◌≤◌, length}
use Rattle.memtable.specs.Slots.{AreNotBelow}
use Rattle.memtable.proofs.entries.steps_before.Given as goal

-- none from the index on is below
abbrev pub invariant-steps : goal.invariant-steps
invariant-steps g l = record {
  within : l.to ≤ length l.slots;
  above : AreNotBelow (g.S.Sought.name l.sought) l.slots l.to;
}

abbrev pub decreases-steps : goal.decreases-steps
decreases-steps g l = l.to
