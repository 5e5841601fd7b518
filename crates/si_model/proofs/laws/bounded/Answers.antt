use Rattle.si_model.proofs.Bounds.{reached_bounds}
use Rattle.si_model.proofs.FewSessions.{few_sessions}
use Rattle.si_model.proofs.laws.bounded.Goals as goal

pub returns : goal.returns
returns c = record { numbers = λ st reached. reached_bounds reached; sessions = few_sessions }
