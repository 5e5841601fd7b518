use Rattle.request_codec.proofs.Fields.{left_cell}
use Rattle.request_codec.proofs.read_bodies.whole_cell.Goals as goal

pub returns-else-is_empty-clause-none : goal.returns-else-is_empty-clause-none
returns-else-is_empty-clause-none c = λ cell fits e.
    left_cell _ cell c.take_cell.new.rest.now c.args.bytes.now c.in_ok-row.ensures.fits fits c.in_ok-row.ensures.found c.if-is_empty.ensures e
