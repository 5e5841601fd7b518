use Rattle.servers_model.proofs.Merging.{all_begin}
use Rattle.servers_model.proofs.laws.all_begin.Goals as goal

pub returns : goal.returns
returns c = all_begin
