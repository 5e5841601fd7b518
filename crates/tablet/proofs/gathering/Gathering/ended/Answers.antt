use Rattle.tablet.proofs.GatheredCells.{gathers_ended}
use Rattle.tablet.proofs.gathering.Gathering.ended.Goals as goal

pub returns-clause-versions : goal.returns-clause-versions
returns-clause-versions c = λ es list gathers. gathers_ended es c.args.self list gathers
