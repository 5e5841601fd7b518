use Rattle.std.proofs.Common.{arith}
use Rattle.servers_model.proofs.served.start.Goals as goal

pub returns : goal.returns
returns c = λ cells st active cleaners next_cleaner collectors next_collector. record {
  sessions = c.new.ensures.shown st (omega arith) active;
  cleaners = c.new-2.ensures.shown st next_cleaner cleaners;
  collectors = c.new-3.ensures.shown cells st next_collector collectors (omega arith);
}
