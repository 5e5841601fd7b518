use Rattle.request_codec.proofs.Cuts.{one_cut_only}
use Rattle.request_codec.proofs.laws.one_cut.Goals as goal

pub returns : goal.returns
returns c = one_cut_only
