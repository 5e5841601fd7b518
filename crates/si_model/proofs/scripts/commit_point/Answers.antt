use Rattle.si_model.proofs.Cleaned.{commit_point}
use Rattle.si_model.proofs.scripts.commit_point.Goals as goal

pub returns : goal.returns
returns c = commit_point
