use Rattle.si_model.proofs.Goes.{goes}
use Rattle.si_model.proofs.ByServers.{by_servers}
use Rattle.si_model.proofs.laws.goes_on.Goals as goal

pub returns : goal.returns
returns c = λ st next q r reached s. goes (by_servers reached) s
