-- A root kept after one minor compaction is kept after many.
use Rattle.row_atomic.specs.Flushes.{numbers_full}
use Rattle.row_atomic.proofs.KeptRoots.{flushes_stay, minors_stay}
use Rattle.row_atomic.proofs.cluster.laws.root_outlasts_flushes.Goals as goal

pub returns : goal.returns
returns g c = λ root cells old new. (
  (λ limits is. minors_stay g.F.Files.contents c.unnamed_may_go.ensures root cells g.F.Files.faults (numbers_full limits old) is.0 old new is.1),
  λ numbers result is. flushes_stay g.F.Files.contents c.unnamed_may_go.ensures root cells g.F.Files.faults numbers result old new is,
)
