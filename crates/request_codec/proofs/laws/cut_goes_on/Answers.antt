use Rattle.request_codec.proofs.Cuts.{cut_from}
use Rattle.request_codec.proofs.laws.cut_goes_on.Goals as goal

pub returns : goal.returns
returns c = λ stream pending rest handed bodies. cut_from handed stream pending bodies rest
