use Rattle.cell_key.proofs.Order.{one_place_a_text}
use Rattle.cell_key.proofs.laws.one_place_a_text.Goals as goal

pub returns : goal.returns
returns c = one_place_a_text
