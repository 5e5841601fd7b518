use Rattle.si_model.proofs.Left.{left_falls}
use Rattle.si_model.proofs.laws.left_falls.Goals as goal

pub returns : goal.returns
returns c = left_falls
