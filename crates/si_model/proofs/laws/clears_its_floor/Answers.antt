use Rattle.si_model.proofs.Floors.{reached_floors, clears_floor}
use Rattle.si_model.proofs.laws.clears_its_floor.Goals as goal

pub returns : goal.returns
returns c = λ st reached i n f next g step. clears_floor (reached_floors reached) f g step
