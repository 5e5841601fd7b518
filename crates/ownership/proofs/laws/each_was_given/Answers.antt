use Rattle.ownership.proofs.Turns.{each_was_given}
use Rattle.ownership.proofs.laws.each_was_given.Goals as goal

pub returns : goal.returns
returns c = each_was_given
