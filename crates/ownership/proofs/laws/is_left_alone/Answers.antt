use Rattle.ownership.proofs.Turns.{is_left_alone}
use Rattle.ownership.proofs.laws.is_left_alone.Goals as goal

pub returns : goal.returns
returns c = is_left_alone
