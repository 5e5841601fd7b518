use Rattle.si_model.proofs.Races.{first_holder}
use Rattle.si_model.proofs.scripts.first_holder.Goals as goal

pub returns : goal.returns
returns c = first_holder
