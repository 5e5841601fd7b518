use Rattle.audit.specs.AuditOperations.{AreFree}
use Rattle.audit.proofs.audit.Audit.first_clash.Given as goal

-- the writes so far don't clash
abbrev pub invariant-loop-index : goal.invariant-loop-index
invariant-loop-index l = AreFree l.self l.start l.writes l.index
