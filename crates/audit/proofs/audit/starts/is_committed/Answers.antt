use Rattle.audit.proofs.Started.{has_some}
use Rattle.audit.proofs.audit.starts.is_committed.Goals as goal

pub returns-in-Some : goal.returns-in-Some
returns-in-Some c =
    let some = has_some c.args.commits.now c.in-Some.starts.now c.in-Some.ensures c.args.start in
    (λ t. some.0 (c.has_start.ensures.0 t), λ has. c.has_start.ensures.1 (some.1 has))
