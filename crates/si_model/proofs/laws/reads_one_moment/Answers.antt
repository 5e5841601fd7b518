use Rattle.si_model.proofs.OneMoment.{reads_one_moment}
use Rattle.si_model.proofs.laws.reads_one_moment.Goals as goal

pub returns : goal.returns
returns c = reads_one_moment
