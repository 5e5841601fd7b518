use Rattle.si_model.proofs.Floors.{reached_floors}
use Rattle.si_model.proofs.laws.floor_stays_low.Goals as goal

pub returns : goal.returns
returns c = λ st reached. reached_floors reached
