use Rattle.si_model.proofs.Pages.{pages_go_on}
use Rattle.si_model.proofs.laws.pages_go_on.Goals as goal

pub returns : goal.returns
returns c = pages_go_on
