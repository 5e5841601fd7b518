use Rattle.clean_up.proofs.Table.{shows_on}
use Rattle.clean_up.proofs.laws.shows_on.Goals as goal

pub returns : goal.returns
returns c = shows_on
