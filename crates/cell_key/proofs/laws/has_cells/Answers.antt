use Rattle.cell_key.proofs.EntryLaws.{has_cells}
use Rattle.cell_key.proofs.laws.has_cells.Goals as goal

pub returns : goal.returns
returns c = has_cells
