use Rattle.si_model.proofs.Parts.{servers_lawful}
use Rattle.si_model.proofs.servers.servers_lawful.Goals as goal

pub returns : goal.returns
returns c = servers_lawful
