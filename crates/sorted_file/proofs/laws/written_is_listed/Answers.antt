use Rattle.sorted_file.proofs.OpenFiles.{written_is_listed}
use Rattle.sorted_file.proofs.laws.written_is_listed.Goals as goal

pub returns : goal.returns
returns c = written_is_listed
