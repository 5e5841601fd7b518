use Rattle.audit.specs.Histories.{AreAdded}
use Rattle.audit.proofs.audit.histories.add_all.Given as goal

-- so far the versions of the writes before this one are added
abbrev pub invariant-loop-index : goal.invariant-loop-index
invariant-loop-index l = AreAdded l.fn.histories l.histories l.writes l.stamp l.place l.index
