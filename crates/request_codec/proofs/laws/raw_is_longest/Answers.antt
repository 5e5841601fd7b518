use Rattle.request_codec.proofs.Longest.{raw_frame}
use Rattle.request_codec.proofs.laws.raw_is_longest.Goals as goal

pub returns : goal.returns
returns c = raw_frame
