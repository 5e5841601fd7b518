use Rattle.sorted_file.proofs.OpenFiles.{open_is_there}
use Rattle.sorted_file.proofs.laws.open_is_there.Goals as goal

pub returns : goal.returns
returns c = open_is_there
