use Rattle.server_loop.proofs.OperationsShown.{operations_leave_others}
use Rattle.server_loop.proofs.laws.operations_leave_others.Goals as goal

pub returns : goal.returns
returns c = operations_leave_others
