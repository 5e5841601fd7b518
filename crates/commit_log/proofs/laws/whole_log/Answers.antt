use Rattle.commit_log.proofs.Cuts.{whole}
use Rattle.commit_log.proofs.laws.whole_log.Goals as goal

pub returns : goal.returns
returns c = whole
