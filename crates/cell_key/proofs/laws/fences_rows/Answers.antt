use Rattle.cell_key.proofs.Order.{fences_rows}
use Rattle.cell_key.proofs.laws.fences_rows.Goals as goal

pub returns : goal.returns
returns c = fences_rows
