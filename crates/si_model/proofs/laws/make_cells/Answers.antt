use Rattle.si_model.proofs.EditedCells.{make_cells}
use Rattle.si_model.proofs.laws.make_cells.Goals as goal

pub returns : goal.returns
returns c = make_cells
