use Rattle.si_model.proofs.Parts.{parts_stay}
use Rattle.si_model.proofs.servers.parts_stay.Goals as goal

pub returns : goal.returns
returns c = parts_stay
