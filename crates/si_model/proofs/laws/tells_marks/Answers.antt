use Rattle.si_model.proofs.Told.{tells_marks}
use Rattle.si_model.proofs.laws.tells_marks.Goals as goal

pub returns : goal.returns
returns c = tells_marks
