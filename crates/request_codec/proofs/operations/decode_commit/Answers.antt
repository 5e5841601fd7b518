use Rattle.request_codec.proofs.Fields.{on_err}
use Rattle.request_codec.proofs.OneOperation.{commit_needs}
use Rattle.request_codec.proofs.operations.decode_commit.Goals as goal

pub returns-in_err-writes-clause-needed : goal.returns-in_err-writes-clause-needed
returns-in_err-writes-clause-needed c =
    let found = c.in-Some.ensures in
    on_err c.from_residual.result (commit_needs c.args.fields.now c.in-Some.rest.now c.in-Some.start c.in-Some.count found.found found.start found.count found.writes c.in_err-writes.ensures.needed)
