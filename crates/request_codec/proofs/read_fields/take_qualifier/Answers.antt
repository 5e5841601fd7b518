use Rattle.request_codec.proofs.Fields.{no_qualifier}
use Rattle.request_codec.proofs.read_fields.take_qualifier.Goals as goal

pub returns-clause-none : goal.returns-clause-none
returns-clause-none c =
    no_qualifier c.qualifier_of.result c.args.rest.now.now c.in_ok-byte.byte c.take_u8.new.rest.now c.in_ok-byte.ensures.fits c.in_ok-byte.ensures.found c.qualifier_of.ensures.none
