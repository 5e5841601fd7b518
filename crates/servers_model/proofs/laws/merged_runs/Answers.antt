use Rattle.servers_model.proofs.Merging.{merged_runs}
use Rattle.servers_model.proofs.laws.merged_runs.Goals as goal

pub returns : goal.returns
returns c = merged_runs
