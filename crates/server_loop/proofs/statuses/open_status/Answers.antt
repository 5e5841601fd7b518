use Rattle.server_loop.proofs.statuses.open_status.Goals as goal

pub returns-in-Device-clause-status : goal.returns-in-Device-clause-status
returns-in-Device-clause-status c = rw c.in-Device.is

pub returns-in-Damaged-clause-status : goal.returns-in-Damaged-clause-status
returns-in-Damaged-clause-status c = rw c.in-Damaged.is
