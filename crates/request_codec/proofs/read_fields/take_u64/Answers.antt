use Rattle.request_codec.proofs.Fields.{no_number, if_none}
use Rattle.request_codec.proofs.read_fields.take_u64.Goals as goal

pub returns-in_err-front-clause-none : goal.returns-in_err-front-clause-none
returns-in_err-front-clause-none c = if_none c.from_residual.result (λ n after. no_number 8 n c.args.rest.now.now after c.in_err-front.ensures.none)
