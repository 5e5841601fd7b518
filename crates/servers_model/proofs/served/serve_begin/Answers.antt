use Rattle.std.proofs.Common.{refl}
use Rattle.si_model.specs.Collection.{unchanged}
use Rattle.servers_model.proofs.served.serve_begin.Goals as goal

pub returns : goal.returns
returns g c = record { serves = λ cells. record { kind = refl; steps = c.begin.ensures.step cells; changed = λ st reached store shown. unchanged } }
