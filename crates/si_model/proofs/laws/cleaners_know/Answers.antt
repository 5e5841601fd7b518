use Rattle.si_model.proofs.CleanerFates.{cleaners_know}
use Rattle.si_model.proofs.ByServers.{by_servers}
use Rattle.si_model.proofs.laws.cleaners_know.Goals as goal

pub returns : goal.returns
returns c = λ st next q r reached. cleaners_know st next q r (by_servers reached)
