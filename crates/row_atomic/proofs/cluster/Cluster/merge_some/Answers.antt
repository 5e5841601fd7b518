-- Without its merge a cluster has the same roots.
use Rattle.std.proofs.Common.{refl}
use Rattle.row_atomic.proofs.MergeSteps.{roots_later, roots_rest}
use Rattle.row_atomic.proofs.cluster.Cluster.merge_some.Goals as goal

pub returns-in-None-clause-roots : goal.returns-in-None-clause-roots
returns-in-None-clause-roots g c = rw (← c.self.view_is) (roots_later g.F.Files.contents _ c.begin_next.new.self c.begin_next.ensures.same c.begin_next.ensures.later)

pub returns-in-Some-clause-roots : goal.returns-in-Some-clause-roots
returns-in-Some-clause-roots g c = rw (← c.self.view_is) (λ root cells has. c.go_on.ensures.roots root cells (roots_rest g.F.Files.contents _ _ refl refl root cells has))
