use Rattle.si_model.proofs.Collected.{stays_shown}
use Rattle.si_model.proofs.laws.stays_shown.Goals as goal

pub returns : goal.returns
returns c = stays_shown
