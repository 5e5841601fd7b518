-- Each size is above the sum of those before it.
use Rattle.tablet.proofs.Levels.{few_levels}
use Rattle.tablet.proofs.laws.few_levels.Goals as goal

pub returns : goal.returns
returns c = few_levels
