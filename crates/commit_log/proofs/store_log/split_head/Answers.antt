use Rattle.std.proofs.Common.{rules}
use Rattle.commit_log.proofs.Storing.{no_store}
use Rattle.commit_log.proofs.store_log.split_head.Goals as goal

pub returns-clause-none : goal.returns-clause-none
returns-clause-none c = no_store c.split_number.result c.args.bytes.now c.in-Some.rest.now (search rules) c.split_number.ensures.none
