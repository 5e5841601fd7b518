use Rattle.remote_rows.proofs.Reasons.{reason_on}
use Rattle.remote_rows.proofs.remote_rows.RemoteRows.span.Goals as goal

pub returns-in_err-page-clause-reason : goal.returns-in_err-page-clause-reason
returns-in_err-page-clause-reason g c =
    reason_on c.args.self.now.faults c.count.new.faults c.count.result c.from_residual.result c.in_err-page.field-0.0 c.in_err-page.was c.from_residual.ensures.1 c.count.ensures.reason
