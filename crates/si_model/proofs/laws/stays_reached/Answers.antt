use Rattle.si_model.proofs.Reached.{stays_reached}
use Rattle.si_model.proofs.laws.stays_reached.Goals as goal

pub returns : goal.returns
returns c = stays_reached
