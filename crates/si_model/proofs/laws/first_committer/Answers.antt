use Rattle.si_model.proofs.Steps.{reached_sound}
use Rattle.si_model.proofs.laws.first_committer.Goals as goal

pub returns : goal.returns
returns c = λ st reached. (reached_sound reached).first_committer
