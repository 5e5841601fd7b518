use Rattle.std.proofs.Common.{rules}
use Rattle.commit_log.specs.Records.{spelled_number}
use Rattle.commit_log.proofs.numbers.number_bytes.Goals as goal

pub returns : goal.returns
unfolding spelled_number
returns c = search rules
