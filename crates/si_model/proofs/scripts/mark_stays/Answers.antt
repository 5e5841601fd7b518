use Rattle.si_model.proofs.Cleaned.{mark_stays}
use Rattle.si_model.proofs.scripts.mark_stays.Goals as goal

pub returns : goal.returns
returns c = mark_stays
