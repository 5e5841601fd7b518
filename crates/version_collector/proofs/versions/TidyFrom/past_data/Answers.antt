use Rattle.std.proofs.Common.{◌∙◌}
use Rattle.version_collector.proofs.TidyCells.{last_is}
use Rattle.version_collector.proofs.versions.TidyFrom.past_data.Goals as goal

pub returns-in-Some-clause-start : goal.returns-in-Some-clause-start
returns-in-Some-clause-start c = c.stamp.ensures.stamp ∙ last_is c.args.self.start c.args.starts.now c.in-Some.start.now c.in-Some.ensures.value
