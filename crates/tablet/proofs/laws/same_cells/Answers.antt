use Rattle.tablet.proofs.TabletLaws.{same_cells}
use Rattle.tablet.proofs.laws.same_cells.Goals as goal

pub returns : goal.returns
returns c = same_cells c.one_listing.ensures
