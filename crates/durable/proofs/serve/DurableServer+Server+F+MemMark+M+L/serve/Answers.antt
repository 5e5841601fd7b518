use Rattle.durable.proofs.KeptAnswers.{serves_lasting}
use Rattle.durable.proofs.serve.DurableServer+Server+F+MemMark+M+L.serve.Goals as goal

pub returns : goal.returns
returns g c = serves_lasting _ _ _ _ _ (λ old new request reply is. is.goes_on, λ old new is. is.settles) _ _ _ _ _ _ _ _ _ c.serve_all.ensures
