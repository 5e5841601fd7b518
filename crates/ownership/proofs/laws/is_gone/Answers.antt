use Rattle.ownership.proofs.Turns.{is_gone}
use Rattle.ownership.proofs.laws.is_gone.Goals as goal

pub returns : goal.returns
returns c = is_gone
