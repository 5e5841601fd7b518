use Rattle.si_model.proofs.Gone.{fates}
use Rattle.si_model.proofs.laws.one_fate.Goals as goal

pub returns : goal.returns
returns c = fates
