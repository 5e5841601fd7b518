use Rattle.sorted_file.proofs.OpenFiles.{stays_open}
use Rattle.sorted_file.proofs.laws.stays_open.Goals as goal

pub returns : goal.returns
returns c = stays_open
