use Rattle.std.proofs.Common.{sym}
use Rattle.version_collector.proofs.Table.{shows_new}
use Rattle.version_collector.proofs.collectors.Collectors.new.Goals as goal

pub returns-clause-shown : goal.returns-clause-shown
returns-clause-shown c = λ cells st next none floor.
    shows_new (record { alloc = c.args.alloc; next = 1; greatest_floor = c.args.floor; collectors = c.new.result }) cells st (sym next) none floor c.new.ensures.empty
