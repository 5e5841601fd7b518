use Rattle.si_model.proofs.Pages.{pages_cover}
use Rattle.si_model.proofs.laws.pages_cover.Goals as goal

pub returns : goal.returns
returns c = pages_cover
