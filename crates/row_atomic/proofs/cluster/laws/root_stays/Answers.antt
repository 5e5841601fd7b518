-- A root is kept after one command.
use Rattle.row_atomic.proofs.KeptRoots.{one_has, one_keeps}
use Rattle.row_atomic.proofs.cluster.laws.root_stays.Goals as goal

pub returns : goal.returns
returns g c = λ request result root cells old new is. (
  one_has g.F.Files.contents c.unnamed_may_go.ensures root cells g.F.Files.faults old new request result is,
  one_keeps g.F.Files.contents c.unnamed_may_go.ensures root cells g.F.Files.faults old new request result is,
)
