-- Roots are kept if the storage is unchanged.
use Rattle.row_atomic.proofs.KeptRoots.{stored_stay}
use Rattle.row_atomic.proofs.cluster.laws.root_is_stored.Goals as goal

pub returns : goal.returns
returns g c = λ root cells old new same. stored_stay g.F.Files.contents root cells old new same
