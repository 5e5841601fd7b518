use Rattle.si_model.proofs.Deletions.{deleted_cell}
use Rattle.si_model.proofs.scripts.deleted_cell.Goals as goal

pub returns : goal.returns
returns c = deleted_cell
