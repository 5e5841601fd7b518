use Rattle.request_codec.proofs.Cuts.{has_cut_always}
use Rattle.request_codec.proofs.laws.has_cut.Goals as goal

pub returns : goal.returns
returns c = has_cut_always
