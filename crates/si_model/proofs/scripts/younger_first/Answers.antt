use Rattle.si_model.proofs.Races.{younger_first}
use Rattle.si_model.proofs.scripts.younger_first.Goals as goal

pub returns : goal.returns
returns c = younger_first
