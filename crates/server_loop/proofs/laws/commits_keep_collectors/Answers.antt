use Rattle.server_loop.proofs.OperationsShown.{commits_keep_collectors}
use Rattle.server_loop.proofs.laws.commits_keep_collectors.Goals as goal

pub returns : goal.returns
returns c = commits_keep_collectors
