use Rattle.version_collector.proofs.TidyCells.{tidy_new}
use Rattle.version_collector.proofs.versions.TidyFrom.new.Goals as goal

pub returns : goal.returns
returns c = λ cells x. tidy_new cells x c.args.floor
