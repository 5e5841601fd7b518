-- The older files stay larger than all newer ones together.
use Rattle.tablet.proofs.Levels.{stay_in_levels}
use Rattle.tablet.proofs.laws.stay_in_levels.Goals as goal

pub returns : goal.returns
returns c = stay_in_levels
