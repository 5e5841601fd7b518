use Rattle.ownership.proofs.Effects.{touches_its_own}
use Rattle.ownership.proofs.laws.touches_its_own.Goals as goal

pub returns : goal.returns
returns c = touches_its_own
