use Rattle.si_model.proofs.Numbers.{reached_numbers}
use Rattle.si_model.proofs.laws.numbered.Goals as goal

pub returns : goal.returns
returns c = λ st reached. reached_numbers reached
