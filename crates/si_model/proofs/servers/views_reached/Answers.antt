use Rattle.si_model.specs.Servers.{sees}
use Rattle.si_model.proofs.servers.views_reached.Goals as goal

pub returns : goal.returns
returns c = λ st own reached part. sees reached part
