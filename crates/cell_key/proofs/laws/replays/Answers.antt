use Rattle.cell_key.proofs.Replaying.{replays}
use Rattle.cell_key.proofs.laws.replays.Goals as goal

pub returns : goal.returns
returns c = replays
