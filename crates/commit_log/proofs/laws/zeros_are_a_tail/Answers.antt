use Rattle.commit_log.proofs.Fronts.{zeros}
use Rattle.commit_log.proofs.laws.zeros_are_a_tail.Goals as goal

pub returns : goal.returns
returns c = zeros
