use Rattle.server_loop.proofs.Rested.{resting_is_kept}
use Rattle.server_loop.proofs.laws.resting_is_kept.Goals as goal

pub returns : goal.returns
returns g c = resting_is_kept g.F.Files g.M.MarkStore
