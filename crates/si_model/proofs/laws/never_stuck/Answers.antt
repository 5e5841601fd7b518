use Rattle.si_model.proofs.Stuck.{never_stuck}
use Rattle.si_model.proofs.ByServers.{by_servers}
use Rattle.si_model.proofs.laws.never_stuck.Goals as goal

pub returns : goal.returns
returns c = λ st reached. never_stuck st (by_servers reached)
