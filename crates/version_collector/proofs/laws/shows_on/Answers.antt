use Rattle.version_collector.proofs.Table.{shows_on}
use Rattle.version_collector.proofs.laws.shows_on.Goals as goal

pub returns : goal.returns
returns c = shows_on
