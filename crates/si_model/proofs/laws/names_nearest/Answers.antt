use Rattle.si_model.proofs.CleanerFates.{names_nearest}
use Rattle.si_model.proofs.ByServers.{by_servers}
use Rattle.si_model.proofs.laws.names_nearest.Goals as goal

pub returns : goal.returns
returns c = λ cells st reached. names_nearest cells st (by_servers reached)
