use Rattle.server_loop.proofs.statuses.end_status.Goals as goal

pub returns-in-Ok-Truncated-clause-status : goal.returns-in-Ok-Truncated-clause-status
returns-in-Ok-Truncated-clause-status c =
    let end = rw c.in-Ok-Truncated.is at c.in-Ok-Truncated.field-0-is in
    rw (c.in-Ok-Truncated.is, end)
