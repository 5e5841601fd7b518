use Rattle.commit_log.proofs.Cuts.{cut_log}
use Rattle.commit_log.proofs.laws.torn_log.Goals as goal

pub returns : goal.returns
returns c = cut_log
