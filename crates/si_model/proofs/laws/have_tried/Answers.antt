use Rattle.si_model.proofs.LastingMarks.{have_tried}
use Rattle.si_model.proofs.ByServers.{by_servers}
use Rattle.si_model.proofs.laws.have_tried.Goals as goal

pub returns : goal.returns
returns c = λ st reached. have_tried st (by_servers reached)
