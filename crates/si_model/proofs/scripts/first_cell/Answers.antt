use Rattle.si_model.proofs.Transfers.{first_cell}
use Rattle.si_model.proofs.scripts.first_cell.Goals as goal

pub returns : goal.returns
returns c = first_cell
