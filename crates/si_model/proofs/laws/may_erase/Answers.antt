use Rattle.si_model.proofs.Collected.{may_erase}
use Rattle.si_model.proofs.ByServers.{by_servers}
use Rattle.si_model.proofs.laws.may_erase.Goals as goal

pub returns : goal.returns
returns c = λ cells st reached. may_erase cells st (by_servers reached)
