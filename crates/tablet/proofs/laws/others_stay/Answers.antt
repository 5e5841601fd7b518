use Rattle.tablet.proofs.TabletLaws.{others_stay}
use Rattle.tablet.proofs.laws.others_stay.Goals as goal

pub returns : goal.returns
returns c = others_stay c.stays_open.ensures
