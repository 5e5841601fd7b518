use Rattle.si_model.proofs.Truly.{answers_truly}
use Rattle.si_model.proofs.laws.answers_truly.Goals as goal

pub returns : goal.returns
returns c = answers_truly
