-- The journal leads to the cells shown.
use Rattle.row_atomic.proofs.Following.{keeps_following}
use Rattle.row_atomic.proofs.cluster.laws.keeps_following.Goals as goal

pub returns : goal.returns
returns g c = keeps_following g.F.Files.contents g.F.Files.faults c.replays.ensures c.root_stays.ensures c.root_outlasts_flushes.ensures c.root_outlasts_merges.ensures c.root_outlasts_sweeps.ensures
