use Rattle.sorted_file.proofs.Splits.{one_image}
use Rattle.sorted_file.proofs.laws.one_image.Goals as goal

pub returns : goal.returns
returns c = one_image
