use Rattle.si_model.proofs.Recovered.{recovers}
use Rattle.si_model.proofs.laws.recovers.Goals as goal

pub returns : goal.returns
returns c = recovers
