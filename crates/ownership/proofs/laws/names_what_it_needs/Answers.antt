use Rattle.ownership.proofs.Needed.{names_what_it_needs}
use Rattle.ownership.proofs.laws.names_what_it_needs.Goals as goal

pub returns : goal.returns
returns c = names_what_it_needs
