use Rattle.servers_model.proofs.Merging.{merged_from_new}
use Rattle.servers_model.proofs.laws.merged_from_new.Goals as goal

pub returns : goal.returns
returns c = merged_from_new
