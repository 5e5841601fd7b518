use Rattle.std.proofs.Common.{◌↔◌}
use Rattle.audit.proofs.EarlyMarks.{HasEarly}
use Rattle.audit.proofs.audit.marks.has_early.Given as goal

-- an early mark is among the ones that are left, if there is one
abbrev pub invariant-loop-start : goal.invariant-loop-start
invariant-loop-start l = HasEarly l.floor l.start-iterator ↔ HasEarly l.floor l.holders.entries
