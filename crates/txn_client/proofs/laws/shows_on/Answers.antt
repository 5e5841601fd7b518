use Rattle.txn_client.proofs.Table.{shows_along}
use Rattle.txn_client.proofs.laws.shows_on.Goals as goal

pub returns : goal.returns
returns c = shows_along
