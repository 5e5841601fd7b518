use Rattle.tablet.proofs.TabletLaws.{unnamed_may_go}
use Rattle.tablet.proofs.laws.unnamed_may_go.Goals as goal

pub returns : goal.returns
returns c = unnamed_may_go c.stays_open.ensures
