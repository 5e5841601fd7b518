-- A root outlasts a sweep that leaves its files.
use Rattle.row_atomic.proofs.KeptRoots.{beside_whole, has_beside}
use Rattle.row_atomic.proofs.cluster.laws.root_outlasts_sweeps.Goals as goal

pub returns : goal.returns
returns g c = record {
  stays = λ root cells. has_beside g.F.Files.contents c.unnamed_may_go.ensures root cells g.F.Files.faults;
  whole = λ root cells. beside_whole g.F.Files.contents root cells g.F.Files.faults;
}
