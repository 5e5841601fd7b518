use Rattle.ownership.proofs.Turns.{others_are_refused}
use Rattle.ownership.proofs.laws.others_are_refused.Goals as goal

pub returns : goal.returns
returns c = others_are_refused
