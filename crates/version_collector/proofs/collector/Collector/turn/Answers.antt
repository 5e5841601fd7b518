use Rattle.version_collector.proofs.OneVisit.{turn_first, turn_second}
use Rattle.version_collector.proofs.collector.Collector.turn.Goals as goal

pub returns-in-First-clause-turned : goal.returns-in-First-clause-turned
returns-in-First-clause-turned c = λ cells next right. turn_first cells c.args.self.now c.in-First.is next

pub returns-in-Second-clause-turned : goal.returns-in-Second-clause-turned
returns-in-Second-clause-turned c = λ cells next right. turn_second cells c.args.self.now c.in-Second.is next right
