use Rattle.si_model.proofs.ByServers.{by_servers}
use Rattle.si_model.proofs.servers.reached_by_servers.Goals as goal

pub returns : goal.returns
returns c = λ st reached. by_servers reached
