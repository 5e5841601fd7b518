use Rattle.commit_log.proofs.Logging.{logs_edits}
use Rattle.commit_log.proofs.laws.logs_edits.Goals as goal

pub returns : goal.returns
returns c = logs_edits c.one_key_a_text.ensures
