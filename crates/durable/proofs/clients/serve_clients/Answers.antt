use Rattle.durable.proofs.KeptFrames.{lasts_again, serves_clients_durably}
use Rattle.durable.proofs.clients.serve_clients.Goals as goal

pub returns : goal.returns
returns g c = serves_clients_durably _ _ _ _ _ (λ old new request reply is. is.goes_on, λ old new is. is.settles, λ server a b same lasts. lasts_again _ _ server a b same lasts) _ _ _ _ _ _ _ _ _ c.serve_all.ensures
