use Rattle.version_collector.proofs.collector.Collector.tidy_from.Goals as goal

pub returns-in_default : goal.returns-in_default
returns-in_default c = λ cells right. c.new.ensures cells c.args.cell.now
