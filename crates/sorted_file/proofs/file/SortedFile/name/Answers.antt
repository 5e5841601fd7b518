use Rattle.std.proofs.Common.{refl}
use Rattle.sorted_file.proofs.file.SortedFile.name.Goals as goal

pub returns : goal.returns
returns c = refl
