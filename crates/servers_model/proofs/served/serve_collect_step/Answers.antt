use Rattle.std.proofs.Common.{refl}
use Rattle.servers_model.proofs.served.serve_collect_step.Goals as goal

pub returns : goal.returns
returns g c = record { serves = λ holds. record { kind = refl; has_begun = λ is. cc; steps = c.step.ensures.step holds; collects = c.step.ensures.leaves holds } }
