use Rattle.request_codec.proofs.OneOperation.{one_operation}
use Rattle.request_codec.proofs.laws.one_operation_a_body.Goals as goal

pub returns : goal.returns
returns c = one_operation
