use Rattle.si_model.proofs.Refusals.{first_refusal}
use Rattle.si_model.proofs.laws.refuses_first.Goals as goal

pub returns : goal.returns
returns c = λ st q r next n f s. first_refusal f s
