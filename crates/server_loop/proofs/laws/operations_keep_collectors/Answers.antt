use Rattle.server_loop.proofs.OperationsShown.{operations_keep_collectors}
use Rattle.server_loop.proofs.laws.operations_keep_collectors.Goals as goal

pub returns : goal.returns
returns c = operations_keep_collectors
