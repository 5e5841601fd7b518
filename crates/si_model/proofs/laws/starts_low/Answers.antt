use Rattle.si_model.proofs.Steps.{reached_sound}
use Rattle.si_model.proofs.laws.starts_low.Goals as goal

pub returns : goal.returns
returns c = λ st reached t p h. let i = reached_sound reached in let b = i.has_begun t p h in i.start_low t b.0 b.1
