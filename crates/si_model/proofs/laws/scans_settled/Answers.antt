use Rattle.si_model.proofs.Steps.{reached_sound}
use Rattle.si_model.proofs.laws.scans_settled.Goals as goal

pub returns : goal.returns
returns c = λ st reached. (reached_sound reached).scans_settled
