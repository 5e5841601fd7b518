use Rattle.std.proofs.Common.{length}
use Rattle.row_atomic.proofs.cluster.many_rows.+apply_to.Given as goal

abbrev pub decreases-apply_to : goal.decreases-apply_to
decreases-apply_to l = length l.changes.items
