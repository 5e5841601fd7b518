use Rattle.row_server.proofs.Floors.{low_floor, own_floor}
use Rattle.row_server.proofs.server.publish_floor.Goals as goal

pub returns-clause-low : goal.returns-clause-low
returns-clause-low g c = low_floor _ _ _ c.floor-floor.ensures.below c.publish.ensures.least

pub returns-clause-alone : goal.returns-clause-alone
returns-clause-alone g c = own_floor _ _ _ _ c.floor-floor.ensures.floor c.publish.ensures.alone
