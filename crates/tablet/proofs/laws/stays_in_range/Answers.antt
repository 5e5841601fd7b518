use Rattle.tablet.proofs.TabletLaws.{stays_in_range}
use Rattle.tablet.proofs.laws.stays_in_range.Goals as goal

pub returns : goal.returns
returns c = stays_in_range
