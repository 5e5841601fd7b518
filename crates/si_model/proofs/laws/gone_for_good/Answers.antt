use Rattle.si_model.proofs.Gone.{gone}
use Rattle.si_model.proofs.laws.gone_for_good.Goals as goal

pub returns : goal.returns
returns c = gone
