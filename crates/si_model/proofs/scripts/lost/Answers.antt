use Rattle.si_model.proofs.Cleaned.{lost}
use Rattle.si_model.proofs.scripts.lost.Goals as goal

pub returns : goal.returns
returns c = lost
