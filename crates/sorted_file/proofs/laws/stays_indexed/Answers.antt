use Rattle.sorted_file.proofs.LockIndexes.{stays_indexed}
use Rattle.sorted_file.proofs.laws.stays_indexed.Goals as goal

pub returns : goal.returns
returns c = stays_indexed
