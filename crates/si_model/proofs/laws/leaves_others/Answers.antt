use Rattle.si_model.proofs.ChangedParts.{leaves_others}
use Rattle.si_model.proofs.laws.leaves_others.Goals as goal

pub returns : goal.returns
returns c = leaves_others
