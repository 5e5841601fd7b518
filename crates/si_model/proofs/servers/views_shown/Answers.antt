use Rattle.si_model.proofs.Parts.{views_shown}
use Rattle.si_model.proofs.servers.views_shown.Goals as goal

pub returns : goal.returns
returns c = views_shown
