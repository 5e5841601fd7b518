-- Each place's number belongs to a tablet.
use Rattle.row_atomic.proofs.ChangedTablets.{known}
use Rattle.row_atomic.proofs.cluster.Cluster.position.Goals as goal

pub overflow_sub-result : goal.overflow_sub-result
overflow_sub-result g c = (known c.self.inside.table c.self.inside.tablets.items c.args.tablet c.self.invariant.0.placed (rw (← c.self.view_is) at c.requires.known)).from

pub returns : goal.returns
returns g c = rw (← c.self.view_is) ((known c.self.inside.table c.self.inside.tablets.items c.args.tablet c.self.invariant.0.placed (rw (← c.self.view_is) at c.requires.known)).at)
