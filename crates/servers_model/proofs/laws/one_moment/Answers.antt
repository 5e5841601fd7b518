use Rattle.servers_model.proofs.Guarding.{one_moment}
use Rattle.servers_model.proofs.laws.one_moment.Goals as goal

pub returns : goal.returns
returns c = one_moment
