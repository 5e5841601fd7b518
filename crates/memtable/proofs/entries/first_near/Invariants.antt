use Rattle.std.proofs.Common.{◌-◌}
use Rattle.memtable.specs.Slots.{IsPartOf}
use Rattle.memtable.proofs.entries.first_near.Given as goal

abbrev pub invariant-halves : goal.invariant-halves
invariant-halves g l = IsPartOf (g.S.Sought.name l.sought) l.slots l.from l.to

abbrev pub decreases-halves : goal.decreases-halves
decreases-halves g l = l.to - l.from
