use Rattle.sorted_file.proofs.Covered.{stays_covered}
use Rattle.sorted_file.proofs.laws.stays_covered.Goals as goal

pub returns : goal.returns
returns c = stays_covered
