use Rattle.rows.proofs.Places.{one_next}
use Rattle.rows.proofs.laws.one_next_cell.Goals as goal

pub returns : goal.returns
returns c = one_next
