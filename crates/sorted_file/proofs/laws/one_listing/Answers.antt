use Rattle.sorted_file.proofs.OpenFiles.{one_listing}
use Rattle.sorted_file.proofs.laws.one_listing.Goals as goal

pub returns : goal.returns
returns c = one_listing
