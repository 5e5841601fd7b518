use Rattle.std.proofs.Common.{◌≢◌, [], rules}
use Rattle.commit_log.proofs.Logging.{stuck}
use Rattle.commit_log.proofs.Results.{passed}
use Rattle.commit_log.proofs.edits.read_edits.Goals as goal

pub returns-in_err-edit-clause-damaged : goal.returns-in_err-edit-clause-damaged
returns-in_err-edit-clause-damaged c = λ e more all.
    let (done, _, read, each) = c.loop-rest.invariant in
    let left : c.loop-rest.rest.now ≢ [] = search rules in
    stuck c.args.form done more c.args.bytes.now c.loop-rest.rest.now each all read left
    (c.in_err-edit.ensures.damaged (passed c.from_residual.result c.in_err-edit.field-0.0 _ c.from_residual.ensures.1 e))
