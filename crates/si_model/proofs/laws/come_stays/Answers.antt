use Rattle.si_model.proofs.CollectorProgress.{come_stays}
use Rattle.si_model.proofs.ByServers.{by_servers}
use Rattle.si_model.proofs.laws.come_stays.Goals as goal

pub returns : goal.returns
returns c = λ cells st reached. come_stays cells st (by_servers reached)
