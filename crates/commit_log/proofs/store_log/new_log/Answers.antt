use Rattle.std.proofs.Common.{rules}
use Rattle.commit_log.proofs.Storing.{new_is_log}
use Rattle.commit_log.proofs.store_log.new_log.Goals as goal

pub returns-clause-is_log : goal.returns-clause-is_log
returns-clause-is_log c = new_is_log c.log_of_one.result c.args.store c.args.first (search rules) c.requires c.log_of_one.ensures
