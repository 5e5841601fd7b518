use Rattle.si_model.proofs.Steps.{reached_sound}
use Rattle.si_model.proofs.Told.{tells_fate}
use Rattle.si_model.proofs.laws.tells_fate.Goals as goal

pub returns : goal.returns
returns c = λ st reached. tells_fate st (reached_sound reached)
