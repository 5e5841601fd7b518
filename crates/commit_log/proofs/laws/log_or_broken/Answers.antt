use Rattle.commit_log.proofs.Numbering.{not_both}
use Rattle.commit_log.proofs.laws.log_or_broken.Goals as goal

pub returns : goal.returns
returns c = not_both
