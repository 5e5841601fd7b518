use Rattle.request_codec.proofs.OneAnswer.{read_frame}
use Rattle.request_codec.proofs.laws.read_is_longest.Goals as goal

pub returns : goal.returns
returns c = read_frame
