-- A root kept after one merge is kept after many.
use Rattle.row_atomic.specs.Flushes.{numbers_of}
use Rattle.row_atomic.proofs.KeptRoots.{merges_have}
use Rattle.row_atomic.proofs.cluster.laws.root_outlasts_merges.Goals as goal

pub returns : goal.returns
returns g c = λ root cells old new policy is. merges_have g.F.Files.contents c.unnamed_may_go.ensures root cells g.F.Files.faults policy (numbers_of old.places) old new is
