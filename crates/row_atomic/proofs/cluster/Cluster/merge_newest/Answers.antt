-- A merge keeps the state.
use Rattle.row_atomic.proofs.Tiers.{keeps_merged}
use Rattle.row_atomic.proofs.cluster.Cluster.merge_newest.Goals as goal

pub returns-then-count-gt0-clause-keeps : goal.returns-then-count-gt0-clause-keeps
returns-then-count-gt0-clause-keeps g c = keeps_merged g.F.Files.contents g.F.Files.faults c.args.self.now c.merge.new.self c.args.tablet c.merge_count-count.result c.merge.result c.merge.ensures
