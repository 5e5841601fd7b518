use Rattle.si_model.proofs.Floors.{stays_cleared}
use Rattle.si_model.proofs.ByServers.{by_servers}
use Rattle.si_model.proofs.laws.stays_cleared.Goals as goal

pub returns : goal.returns
returns c = λ st reached. stays_cleared st (by_servers reached)
