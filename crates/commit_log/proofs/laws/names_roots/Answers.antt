use Rattle.commit_log.proofs.Naming.{names_roots}
use Rattle.commit_log.proofs.laws.names_roots.Goals as goal

pub returns : goal.returns
returns c = names_roots
