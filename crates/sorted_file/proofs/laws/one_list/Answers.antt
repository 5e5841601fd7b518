use Rattle.sorted_file.proofs.EntryParts.{one_list}
use Rattle.sorted_file.proofs.laws.one_list.Goals as goal

pub returns : goal.returns
returns c = one_list
