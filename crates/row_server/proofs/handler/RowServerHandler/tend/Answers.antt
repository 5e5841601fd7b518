use Rattle.row_server.proofs.PartSteps.{published_shown}
use Rattle.row_server.proofs.handler.RowServerHandler.tend.Goals as goal

pub returns-then-self-eq0-clause-shown : goal.returns-then-self-eq0-clause-shown
returns-then-self-eq0-clause-shown g c = published_shown g.R.Rows.seen g.S.Stamps.source c.args.self.now _ _ c.publish_floor-least.ensures.last c.publish_floor-least.ensures.known
