use Rattle.si_model.proofs.Cleaned.{rolled_back}
use Rattle.si_model.proofs.scripts.rolled_back.Goals as goal

pub returns : goal.returns
returns c = rolled_back
