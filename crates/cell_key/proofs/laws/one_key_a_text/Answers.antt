use Rattle.cell_key.proofs.Order.{text_exact, stored_plain}
use Rattle.cell_key.proofs.laws.one_key_a_text.Goals as goal

pub returns : goal.returns
returns c = λ a b s t e. text_exact a b (stored_plain a s) (stored_plain b t) e
