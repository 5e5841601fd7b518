use Rattle.cell_key.proofs.Reasons.{not_refused, reason_kept, reason_passed}
use Rattle.txn_client.proofs.SessionSteps.{advance_drawn}
use Rattle.txn_client.proofs.session.Session.draw_commit.Goals as goal

pub returns-clause-step : goal.returns-clause-step
returns-clause-step g c = λ cells.
    let drawn = c.in_ok-commit.ensures.drawn in
    let source = g.S.Stamps.source in
    rw c.new-self.ensures (advance_drawn cells c.args.self.now (source.last c.args.stamps.now) c.in_ok-commit.commit c.requires drawn.above drawn.limit (source.last c.draw.new.self) drawn.becomes)

pub returns-clause-reason : goal.returns-clause-reason
returns-clause-reason g c = reason_kept _ _ _ _ (not_refused _ _) c.in_ok-commit.ensures.reason

pub returns-in_err-commit-clause-reason : goal.returns-in_err-commit-clause-reason
returns-in_err-commit-clause-reason g c = reason_passed c.from_residual.result c.in_err-commit.field-0.0 _ _ c.from_residual.ensures.1 c.in_err-commit.ensures.reason
