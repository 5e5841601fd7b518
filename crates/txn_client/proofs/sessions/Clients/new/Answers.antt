use Rattle.std.proofs.Common.{◌-◌, ◌^◌, refl}
use Rattle.txn_client.proofs.Table.{shows_new}
use Rattle.txn_client.proofs.sessions.Clients.new.Goals as goal

pub returns : goal.returns
returns c = record { top = refl; buffered = refl; limit = refl; shown = λ st top none. shows_new (record { alloc = c.args.alloc; top = c.args.top; sessions = c.new.result; buffered = 0; most_buffered = 2 ^ 64 - 1 }) st top none c.new.ensures.empty }
