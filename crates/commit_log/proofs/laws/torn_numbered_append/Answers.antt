use Rattle.commit_log.proofs.Numbering.{in_part}
use Rattle.commit_log.proofs.laws.torn_numbered_append.Goals as goal

pub returns : goal.returns
returns c = in_part
