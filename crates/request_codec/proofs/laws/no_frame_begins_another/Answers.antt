use Rattle.request_codec.proofs.Cuts.{frame_begins}
use Rattle.request_codec.proofs.laws.no_frame_begins_another.Goals as goal

pub returns : goal.returns
returns c = frame_begins
