use Rattle.commit_log.proofs.Numbering.{one_reading}
use Rattle.commit_log.proofs.laws.one_numbered_reading.Goals as goal

pub returns : goal.returns
returns c = one_reading
