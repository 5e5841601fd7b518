use Rattle.request_codec.proofs.Fields.{on_err}
use Rattle.request_codec.proofs.OneOperation.{read_needs}
use Rattle.request_codec.proofs.operations.decode_read.Goals as goal

pub returns-in_err-cells-clause-needed : goal.returns-in_err-cells-clause-needed
returns-in_err-cells-clause-needed c =
    let found = c.in-Some.ensures in
    on_err c.from_residual.result
    (read_needs c.args.fields.now c.in-Some.rest.now c.in-Some.start c.in-Some.count c.in-Some.stays_open found.found found.start found.count found.cells c.in_err-cells.ensures.needed)
