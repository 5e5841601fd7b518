use Rattle.si_model.proofs.LastingMarks.{endures}
use Rattle.si_model.proofs.laws.endures.Goals as goal

pub returns : goal.returns
returns c = endures
