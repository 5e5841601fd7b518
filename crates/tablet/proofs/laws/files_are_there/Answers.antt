use Rattle.tablet.proofs.TabletLaws.{files_are_there}
use Rattle.tablet.proofs.laws.files_are_there.Goals as goal

pub returns : goal.returns
returns c = files_are_there c.open_is_there.ensures
