use Rattle.remote_rows.proofs.Reasons.{reason_on}
use Rattle.remote_rows.proofs.remote_rows.RemoteRows.fetch.Goals as goal

pub returns-in_err-guard-clause-reason : goal.returns-in_err-guard-clause-reason
returns-in_err-guard-clause-reason g c =
    reason_on c.args.self.now.faults c.count.new.faults c.count.result c.from_residual.result c.in_err-guard.field-0.0 c.in_err-guard.was c.from_residual.ensures.1 c.count.ensures.reason
