use Rattle.server_loop.proofs.Rested.{rests_between}
use Rattle.server_loop.proofs.laws.rests_between.Goals as goal

pub returns : goal.returns
returns g c = rests_between g.F.Files g.M.MarkStore c.root_outlasts_flushes.ensures
