use Rattle.si_model.proofs.Steps.{reached_sound}
use Rattle.si_model.proofs.laws.one_mark.Goals as goal

pub returns : goal.returns
returns c = λ st reached. (reached_sound reached).one_mark
