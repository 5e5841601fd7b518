-- An opened store shows its root's cells.
use Rattle.row_atomic.proofs.Following.{opens_following}
use Rattle.row_atomic.proofs.cluster.laws.opens_following.Goals as goal

pub returns : goal.returns
returns g c = opens_following g.F.Files.contents
