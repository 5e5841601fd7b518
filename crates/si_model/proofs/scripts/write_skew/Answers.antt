use Rattle.si_model.proofs.Races.{write_skew}
use Rattle.si_model.proofs.scripts.write_skew.Goals as goal

pub returns : goal.returns
returns c = write_skew
