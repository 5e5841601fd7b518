use Rattle.durable.proofs.Rooted.{reason_then}
use Rattle.durable.proofs.server.reserve_root.Goals as goal

pub returns-in-Ok-clause-reason : goal.returns-in-Ok-clause-reason
returns-in-Ok-clause-reason g c = reason_then _ _ _ c.reserve_beside.result (c.in-Ok.ensures.reason.told (λ e. cc)) c.reserve_beside.ensures.reason

pub returns-in-Ok-clause-same : goal.returns-in-Ok-clause-same
returns-in-Ok-clause-same g c = λ records held. c.reserve_beside.ensures.same records (c.reserve_renewal.ensures.same records held)
