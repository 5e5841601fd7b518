use Rattle.si_model.proofs.CollectorProgress.{comes_further}
use Rattle.si_model.proofs.laws.comes_further.Goals as goal

pub returns : goal.returns
returns c = comes_further
