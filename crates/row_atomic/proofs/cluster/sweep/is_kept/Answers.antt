use Rattle.row_atomic.proofs.Sweeps.{kept_if_listed}
use Rattle.row_atomic.proofs.cluster.sweep.is_kept.Goals as goal

pub returns-else-name-eq0 : goal.returns-else-name-eq0
returns-else-name-eq0 c = kept_if_listed c.args.table.now c.args.name c.listed.result c.if-name-eq0.false c.listed.ensures
