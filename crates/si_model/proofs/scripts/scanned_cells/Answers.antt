use Rattle.si_model.proofs.ScanScript.{scanned_cells}
use Rattle.si_model.proofs.scripts.scanned_cells.Goals as goal

pub returns : goal.returns
returns c = scanned_cells
