use Rattle.request_codec.proofs.OneRequest.{one_request}
use Rattle.request_codec.proofs.laws.one_request_a_body.Goals as goal

pub returns : goal.returns
returns c = one_request
