-- The entries and bytes of a full memtable are within the upper bounds.
use Rattle.std.proofs.Common.{sym, subst, IsTrue}
use Rattle.row_atomic.proofs.Memtables.{may_be_full}
use Rattle.row_atomic.proofs.cluster.Cluster.may_have_full.Goals as goal

pub returns : goal.returns
returns g c = rw (← c.self.view_is) (λ full. subst IsTrue (sym c.reaches.ensures) (may_be_full c.args.limits c.self.inside.most c.self.inside.tablets.items c.self.invariant.2 full))
