use Rattle.std.proofs.Common.{rules}
use Rattle.std.proofs.lemmas.Nat.{be_bytes_8}
use Rattle.commit_log.specs.Records.{spelled_number}
use Rattle.commit_log.proofs.numbers.number_in.Goals as goal

pub returns : goal.returns
unfolding spelled_number
returns c = be_bytes_8 c.args.bytes _ (search rules) (search rules) c.from_be_bytes.ensures
