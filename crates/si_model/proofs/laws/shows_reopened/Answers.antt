use Rattle.si_model.proofs.ShownKept.{shows_reopened}
use Rattle.si_model.proofs.laws.shows_reopened.Goals as goal

pub returns : goal.returns
returns c = shows_reopened
