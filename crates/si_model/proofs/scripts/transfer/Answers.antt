use Rattle.si_model.proofs.Transfers.{transfer}
use Rattle.si_model.proofs.scripts.transfer.Goals as goal

pub returns : goal.returns
returns c = transfer
