use Rattle.si_model.proofs.Fates.{fate_seen}
use Rattle.si_model.proofs.ByServers.{by_servers}
use Rattle.si_model.proofs.laws.fate_seen.Goals as goal

pub returns : goal.returns
returns c = λ st reached. fate_seen st (by_servers reached)
