use Rattle.si_model.proofs.Stuck.{never_stuck}
use Rattle.si_model.proofs.servers.servers_never_stuck.Goals as goal

pub returns : goal.returns
returns c = never_stuck
