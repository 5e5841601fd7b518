use Rattle.std.proofs.Common.{sym}
use Rattle.clean_up.proofs.Table.{shows_new}
use Rattle.clean_up.proofs.cleaners.Cleaners.new.Goals as goal

pub returns : goal.returns
returns c = record { shown = λ st next none. shows_new (record { alloc = c.args.alloc; next = 1; cleaners = c.new.result }) st (sym next) none c.new.ensures.empty }
