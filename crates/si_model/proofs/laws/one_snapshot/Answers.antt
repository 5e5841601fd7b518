use Rattle.si_model.proofs.Steps.{reached_sound}
use Rattle.si_model.proofs.Snapshots.{one_answer}
use Rattle.si_model.proofs.laws.one_snapshot.Goals as goal

pub returns : goal.returns
returns c = λ st reached. one_answer st (reached_sound reached)
