use Rattle.servers_model.proofs.Guarding.{served_at_one_moment}
use Rattle.servers_model.proofs.laws.served_at_one_moment.Goals as goal

pub returns : goal.returns
returns c = served_at_one_moment
