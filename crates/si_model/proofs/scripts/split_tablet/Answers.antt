use Rattle.si_model.proofs.TabletScript.{split_tablet}
use Rattle.si_model.proofs.scripts.split_tablet.Goals as goal

pub returns : goal.returns
returns c = split_tablet
