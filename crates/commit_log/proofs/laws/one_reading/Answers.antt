use Rattle.commit_log.proofs.Cuts.{one_reading}
use Rattle.commit_log.proofs.laws.one_reading.Goals as goal

pub returns : goal.returns
returns c = one_reading
