use Rattle.si_model.proofs.Cleaned.{stranded}
use Rattle.si_model.proofs.scripts.stranded_mark.Goals as goal

pub returns : goal.returns
returns c = stranded
