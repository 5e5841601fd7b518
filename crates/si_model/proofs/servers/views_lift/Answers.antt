use Rattle.si_model.proofs.Lifted.{views_lift}
use Rattle.si_model.proofs.servers.views_lift.Goals as goal

pub returns : goal.returns
returns c = views_lift
