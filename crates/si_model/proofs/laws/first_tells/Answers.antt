use Rattle.si_model.proofs.CleanerFates.{first_tells}
use Rattle.si_model.proofs.ByServers.{by_servers}
use Rattle.si_model.proofs.laws.first_tells.Goals as goal

pub returns : goal.returns
returns c = λ cells st reached. first_tells cells st (by_servers reached)
