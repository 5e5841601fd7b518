use Rattle.si_model.proofs.ScanLaws.{nothing_there}
use Rattle.si_model.proofs.laws.nothing_there.Goals as goal

pub returns : goal.returns
returns c = nothing_there
