use Rattle.ownership.proofs.Turns.{stays_known}
use Rattle.ownership.proofs.laws.stays_known.Goals as goal

pub returns : goal.returns
returns c = stays_known
