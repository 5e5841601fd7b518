use Rattle.row_atomic.proofs.Memtables.{largest_within}
use Rattle.row_atomic.proofs.cluster.Cluster.filled.Goals as goal

pub returns : goal.returns
returns g c = rw (← c.self.view_is) (largest_within c.self.inside.most c.self.inside.tablets.items c.self.invariant.2)
