use Rattle.sorted_file.proofs.Places.{rest_list}
use Rattle.sorted_file.proofs.laws.rest_is_list.Goals as goal

pub returns : goal.returns
returns c = rest_list
