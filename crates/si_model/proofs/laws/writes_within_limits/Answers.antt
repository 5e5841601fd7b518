use Rattle.si_model.proofs.Limits.{writes_within_limits}
use Rattle.si_model.proofs.ByServers.{by_servers}
use Rattle.si_model.proofs.laws.writes_within_limits.Goals as goal

pub returns : goal.returns
returns c = λ st reached. writes_within_limits st (by_servers reached)
