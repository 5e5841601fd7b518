use Rattle.commit_log.proofs.Logging.{as_many}
use Rattle.commit_log.proofs.laws.as_many_edits.Goals as goal

pub returns : goal.returns
returns c = as_many
